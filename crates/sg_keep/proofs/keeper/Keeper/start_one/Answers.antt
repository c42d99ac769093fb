use Rattle.std.proofs.Common.{◌≡◌, ◌∙◌, ap, length, refl, subst}
use Rattle.std.proofs.lemmas.Result.{on_ok_weaker}
use Rattle.sg_protocol.specs.Calls.{Start}
use Rattle.sg_play.specs.Ends.{Outside}
use Rattle.sg_play.specs.Played.{Play, cast_of_start, starts, with_turn, without}
use Rattle.sg_play.specs.declared.player.Player.{Player}
use Rattle.sg_play.proofs.Running.{start_is, without_some}
use Rattle.sg_keep.specs.KeptRuns.{LeavesAtMost}
use Rattle.sg_keep.proofs.Asking.{asked_node, holds_all, is_asked, kept_without, memory_end}
use Rattle.sg_keep.proofs.Counting.{memory_kept}
use Rattle.sg_keep.proofs.Ending.{to_same}
use Rattle.sg_keep.proofs.Going.{by_start}
use Rattle.sg_keep.proofs.AtMost.{not_asked_at_most}
use Rattle.sg_keep.proofs.Moments.{all_held, not_asked}
use Rattle.sg_keep.proofs.keeper.Keeper.start_one.Goals as goal

pub report-came-requires : goal.report-came-requires
report-came-requires g c =
    let h = c.requires.holds in
    record { asked = asked_node c.args.self.now c.ask_start.new.self (g.D.Disk.may_leave c.args.disk.now) (Start (cast_of_start c.args.self.now.player.programs.now c.args.start_of.now c.next-nonce.result)) c.in-Ok.outcome h (c.in-Ok.ensures.is_asked 0 h.past h.represents) }

pub returns-in-Ok-clause-progress : goal.returns-in-Ok-clause-progress
returns-in-Ok-clause-progress g c = λ p start s w h.
    let leaves = g.D.Disk.may_leave c.args.disk.now in
    let now : Outside = record { written = g.O.Sink.written c.report-came.new.out; sent = g.L.Link.sent c.report-came.new.link } in
    let q : Play = without 1 p in
    let cast = cast_of_start c.args.self.now.player.programs.now c.args.start_of.now c.next-nonce.result in
    let t = kept_without c.args.self.now p q refl refl (without_some 1 c.args.self.now.player p s.player) s in
    let is : with_turn q (Start cast) ≡ starts p c.args.start_of.now = start_is p c.args.start_of.now c.args.self.now.player.programs.now c.next-nonce.result cast s.player.programs (c.next-nonce.ensures.drawn p.random w) refl in
    to_same start now (g.D.Disk.may_leave c.report-came.new.disk) c.report-came.new.self (g.R.Fresh.random c.report-came.new.fresh) (with_turn q (Start cast)) (starts p c.args.start_of.now) c.report-came.result is
    (c.report-came.ensures.progress q (Start cast) start
    (is_asked c.args.self.now c.ask_start.new.self leaves q (Start cast) c.in-Ok.outcome c.requires.holds t c.in-Ok.ensures.rest (λ number. c.in-Ok.ensures.is_asked number q.past t.player.node) refl)
    (c.next-nonce.ensures.taken p.random w) h)

pub returns-in-Err-clause-kept : goal.returns-in-Err-clause-kept
returns-in-Err-clause-kept g c = memory_kept c.in-Err.ensures.memory

pub returns-in-Err-clause-progress : goal.returns-in-Err-clause-progress
returns-in-Err-clause-progress g c = λ p start s w h.
    memory_end start (record { written = g.O.Sink.written c.args.out.now; sent = g.L.Link.sent c.args.link.now }) (g.D.Disk.may_leave c.args.disk.now) c.args.self.now p (starts p c.args.start_of.now) c.requires.holds s (by_start p c.args.start_of.now) h c.in-Err.fault c.in-Err.ensures.memory

pub returns-in-Err-clause-any_moment : goal.returns-in-Err-clause-any_moment
returns-in-Err-clause-any_moment g c =
    let leaves = g.D.Disk.may_leave c.args.disk.now in
    not_asked g.D.Disk.moment g.D.Disk.left_since c.args.disk.now leaves (g.met.D.Disk.only_now c.args.disk.now) c.args.self.now.ledger.joins (all_held c.args.self.now leaves c.requires.holds)

pub returns-in-Ok-clause-leaves_at_most : goal.returns-in-Ok-clause-leaves_at_most
returns-in-Ok-clause-leaves_at_most g c = λ p s w.
    let q : Play = without 1 p in
    let cast = cast_of_start c.args.self.now.player.programs.now c.args.start_of.now c.next-nonce.result in
    let t = kept_without c.args.self.now p q refl refl (without_some 1 c.args.self.now.player p s.player) s in
    let is : with_turn q (Start cast) ≡ starts p c.args.start_of.now = start_is p c.args.start_of.now c.args.self.now.player.programs.now c.next-nonce.result cast s.player.programs (c.next-nonce.ensures.drawn p.random w) refl in
    subst (λ (z : Play). LeavesAtMost g.D.Disk.moment g.D.Disk.left_since c.args.disk.now c.report-came.new.disk z (length p.past.calls)) is
    (c.report-came.ensures.leaves_at_most q (Start cast)
    (is_asked c.args.self.now c.ask_start.new.self (g.D.Disk.may_leave c.args.disk.now) q (Start cast) c.in-Ok.outcome c.requires.holds t c.in-Ok.ensures.rest (λ number. c.in-Ok.ensures.is_asked number q.past t.player.node) refl))

pub returns-in-Err-clause-leaves_at_most : goal.returns-in-Err-clause-leaves_at_most
returns-in-Err-clause-leaves_at_most g c = λ p s w.
    let leaves = g.D.Disk.may_leave c.args.disk.now in
    not_asked_at_most g.D.Disk.moment g.D.Disk.left_since c.args.disk.now leaves (g.met.D.Disk.only_now c.args.disk.now) p (starts p c.args.start_of.now) (by_start p c.args.start_of.now) (holds_all c.args.self.now leaves p c.requires.holds s)

pub returns-in-Ok-clause-programs : goal.returns-in-Ok-clause-programs
returns-in-Ok-clause-programs g c = on_ok_weaker c.report-came.result (λ h. h ∙ ap (λ (pl : Player). pl.programs.now) c.in-Ok.ensures.rest) c.report-came.ensures.programs
