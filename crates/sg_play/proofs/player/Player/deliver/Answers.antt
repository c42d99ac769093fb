use Rattle.std.proofs.Common.{refl}
use Rattle.sg_protocol.specs.Calls.{Deliver}
use Rattle.sg_play.specs.Around.{outside_of}
use Rattle.sg_play.specs.Played.{with_turn}
use Rattle.sg_play.proofs.Coming.{no_memory_by}
use Rattle.sg_play.proofs.Counting.{memory_kept}
use Rattle.sg_play.proofs.Extends.{with_call}
use Rattle.sg_play.proofs.Reporting.{asked_by}
use Rattle.sg_play.proofs.player.Player.deliver.Goals as goal

pub returns-in-Err-clause-progress : goal.returns-in-Err-clause-progress
returns-in-Err-clause-progress g c = λ p start s w h.
    let call = Deliver c.args.bytes.now in
    no_memory_by start (outside_of g.L.Link g.O.Sink c.args.link.now c.args.out.now) p (with_turn p call) c.in-Err.fault c.in-Err.ensures.memory (with_call p call) h

pub returns-in-Ok-clause-progress : goal.returns-in-Ok-clause-progress
returns-in-Ok-clause-progress g c = λ p start s w h.
    let call = Deliver c.args.bytes.now in
    let asked = asked_by c.args.self.now c.ask_deliver.new.self p call c.in-Ok.outcome s c.in-Ok.ensures.rest (λ number. c.in-Ok.ensures.is_asked number p.past s.node) in
    c.go_on-ended.ensures.progress p call start asked refl w h

pub returns-in-Err-clause-kept : goal.returns-in-Err-clause-kept
returns-in-Err-clause-kept g c = memory_kept refl c.in-Err.ensures.memory

pub returns-in-Ok-clause-kept : goal.returns-in-Ok-clause-kept
returns-in-Ok-clause-kept g c = c.go_on-ended.ensures.kept
