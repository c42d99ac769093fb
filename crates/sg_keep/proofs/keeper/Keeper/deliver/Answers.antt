use Rattle.std.proofs.Common.{refl}
use Rattle.sg_protocol.specs.Calls.{Deliver}
use Rattle.sg_play.specs.Played.{with_turn}
use Rattle.sg_keep.proofs.Asking.{asked_node, holds_all, is_asked, memory_end}
use Rattle.sg_keep.proofs.Counting.{memory_kept}
use Rattle.sg_keep.proofs.Going.{with_call}
use Rattle.sg_keep.proofs.AtMost.{not_asked_at_most}
use Rattle.sg_keep.proofs.Moments.{all_held, not_asked}
use Rattle.sg_keep.proofs.keeper.Keeper.deliver.Goals as goal

pub report-came-requires : goal.report-came-requires
report-came-requires g c =
    let h = c.requires.holds in
    record { asked = asked_node c.args.self.now c.ask_deliver.new.self (g.D.Disk.may_leave c.args.disk.now) (Deliver c.args.bytes.now) c.in-Ok.outcome h (c.in-Ok.ensures.is_asked 0 h.past h.represents) }

pub returns-in-Ok-clause-progress : goal.returns-in-Ok-clause-progress
returns-in-Ok-clause-progress g c = λ p start s w h.
    c.report-came.ensures.progress p (Deliver c.args.bytes.now) start
    (is_asked c.args.self.now c.ask_deliver.new.self (g.D.Disk.may_leave c.args.disk.now) p (Deliver c.args.bytes.now) c.in-Ok.outcome c.requires.holds s c.in-Ok.ensures.rest (λ number. c.in-Ok.ensures.is_asked number p.past s.player.node) refl)
    w h

pub returns-in-Err-clause-kept : goal.returns-in-Err-clause-kept
returns-in-Err-clause-kept g c = memory_kept c.in-Err.ensures.memory

pub returns-in-Err-clause-progress : goal.returns-in-Err-clause-progress
returns-in-Err-clause-progress g c = λ p start s w h.
    memory_end start (record { written = g.O.Sink.written c.args.out.now; sent = g.L.Link.sent c.args.link.now }) (g.D.Disk.may_leave c.args.disk.now) c.args.self.now p (with_turn p (Deliver c.args.bytes.now)) c.requires.holds s (with_call p (Deliver c.args.bytes.now)) h c.in-Err.fault c.in-Err.ensures.memory

pub returns-in-Err-clause-any_moment : goal.returns-in-Err-clause-any_moment
returns-in-Err-clause-any_moment g c =
    let leaves = g.D.Disk.may_leave c.args.disk.now in
    not_asked g.D.Disk.moment g.D.Disk.left_since c.args.disk.now leaves (g.met.D.Disk.only_now c.args.disk.now) c.args.self.now.ledger.joins (all_held c.args.self.now leaves c.requires.holds)

pub returns-in-Ok-clause-leaves_at_most : goal.returns-in-Ok-clause-leaves_at_most
returns-in-Ok-clause-leaves_at_most g c = λ p s.
    c.report-came.ensures.leaves_at_most p (Deliver c.args.bytes.now)
    (is_asked c.args.self.now c.ask_deliver.new.self (g.D.Disk.may_leave c.args.disk.now) p (Deliver c.args.bytes.now) c.in-Ok.outcome c.requires.holds s c.in-Ok.ensures.rest (λ number. c.in-Ok.ensures.is_asked number p.past s.player.node) refl)

pub returns-in-Err-clause-leaves_at_most : goal.returns-in-Err-clause-leaves_at_most
returns-in-Err-clause-leaves_at_most g c = λ p s.
    let leaves = g.D.Disk.may_leave c.args.disk.now in
    not_asked_at_most g.D.Disk.moment g.D.Disk.left_since c.args.disk.now leaves (g.met.D.Disk.only_now c.args.disk.now) p (with_turn p (Deliver c.args.bytes.now)) (with_call p (Deliver c.args.bytes.now)) (holds_all c.args.self.now leaves p c.requires.holds s)
