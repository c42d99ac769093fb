use Rattle.std.proofs.Common.{◌≡◌, ap, refl}
use Rattle.sg_play.specs.declared.player.Player.{Player}
use Rattle.sg_play.specs.Played.{called}
use Rattle.sg_play.specs.Posting.{frames_made}
use Rattle.sg_play.proofs.Coming.{came_after, no_memory_by}
use Rattle.sg_play.proofs.Counting.{memory_kept}
use Rattle.sg_play.proofs.Extends.{by_call}
use Rattle.sg_play.proofs.Results.{anyway}
use Rattle.sg_play.proofs.player.Player.give.Goals as goal

pub returns-in-Ok-clause-progress : goal.returns-in-Ok-clause-progress
returns-in-Ok-clause-progress g c = λ p k start asked left w.
    let reported = c.in-Ok.ensures.reported p k (frames_made c.args.frame) asked left in
    came_after start (record { written = g.O.Sink.written c.args.out.now; sent = g.L.Link.sent c.args.link.now }) (record { written = g.O.Sink.written c.post.new.out; sent = g.L.Link.sent c.post.new.link }) c.report.new.self p k
    c.in-Ok.line.items (frames_made c.args.frame) c.post.result w reported.1 reported.0
    asked.is_made c.post.ensures.no_memory c.post.ensures.line c.post.ensures.frame c.post.ensures.prefix c.post.ensures.no_frame c.post.ensures.no_line

pub returns-in-Err-clause-progress : goal.returns-in-Err-clause-progress
returns-in-Err-clause-progress g c = λ p k start asked left w. no_memory_by start (record { written = g.O.Sink.written c.args.out.now; sent = g.L.Link.sent c.args.link.now }) p (called p k) c.in-Err.fault c.in-Err.ensures.memory (by_call p k) w

pub returns-in-Ok-clause-node : goal.returns-in-Ok-clause-node
returns-in-Ok-clause-node g c = anyway c.post.result (c.report.new.self.node ≡ c.args.self.now.node) (ap (λ (pl : Player). pl.node) c.in-Ok.ensures.rest)

pub returns-in-Ok-clause-kept : goal.returns-in-Ok-clause-kept
returns-in-Ok-clause-kept g c = record { bound = c.post.ensures.link_bound; deliveries = c.post.ensures.deliveries; faults = c.post.ensures.faults }

pub returns-in-Err-clause-kept : goal.returns-in-Err-clause-kept
returns-in-Err-clause-kept g c = memory_kept refl c.in-Err.ensures.memory

pub returns-in-Ok-clause-programs : goal.returns-in-Ok-clause-programs
returns-in-Ok-clause-programs g c = anyway c.post.result (c.report.new.self.programs.now ≡ c.args.self.now.programs.now) (ap (λ (pl : Player). pl.programs.now) c.in-Ok.ensures.rest)
