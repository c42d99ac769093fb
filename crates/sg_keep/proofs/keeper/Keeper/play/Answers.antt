use Rattle.std.proofs.Common.{take, ◌∙◌, arith}
use Rattle.std.proofs.lemmas.Result.{on_ok_weaker}
use Rattle.sg_play.specs.Ends.{Outside}
use Rattle.sg_play.specs.Played.{all_deliveries, all_starts}
use Rattle.sg_keep.proofs.Asking.{came_kept}
use Rattle.sg_keep.proofs.AtMost.{throughout_on, throughout_then}
use Rattle.sg_keep.proofs.Counting.{counted_then}
use Rattle.sg_keep.proofs.Ending.{end_on}
use Rattle.sg_keep.proofs.Going.{by_deliveries, by_starts, in_step_on}
use Rattle.sg_keep.proofs.Moments.{more_on}
use Rattle.sg_keep.proofs.keeper.Keeper.play.Goals as goal

pub returns-in-Ok-clause-faults : goal.returns-in-Ok-clause-faults
returns-in-Ok-clause-faults g c = counted_then c.in-Ok.ensures.kept.faults c.take_all.ensures.faults

pub returns-in-Ok-clause-left : goal.returns-in-Ok-clause-left
returns-in-Ok-clause-left g c = on_ok_weaker c.take_all.result (λ h deliveries reported. h deliveries (c.start_all.ensures.kept.deliveries ∙ reported)) c.take_all.ensures.left

pub returns-in-Ok-clause-at_most : goal.returns-in-Ok-clause-at_most
returns-in-Ok-clause-at_most g c = λ deliveries reported. c.take_all.ensures.at_most deliveries (c.start_all.ensures.kept.deliveries ∙ reported)

pub returns-in-Ok-clause-any_moment : goal.returns-in-Ok-clause-any_moment
returns-in-Ok-clause-any_moment g c =
    more_on g.D.Disk.moment g.D.Disk.left_since c.args.disk.now c.start_all.new.disk c.take_all.new.disk c.args.self.now.ledger.joins c.start_all.new.self.ledger.joins c.in-Ok.ensures.more c.start_all.ensures.any_moment c.take_all.ensures.any_moment

pub returns-in-Ok-clause-kept : goal.returns-in-Ok-clause-kept
returns-in-Ok-clause-kept g c = λ p start deliveries reported s w h.
    let now : Outside = record { written = g.O.Sink.written c.take_all.new.out; sent = g.L.Link.sent c.take_all.new.link } in
    let begun = all_starts p c.args.starts.now in
    let came = c.in-Ok.ensures.progress p start s w h in
    came_kept start now (g.D.Disk.may_leave c.take_all.new.disk) c.take_all.new.self (g.R.Fresh.random c.take_all.new.fresh) (all_deliveries begun (take c.args.most deliveries)) c.take_all.result c.take_all.ensures.holds
    (c.take_all.ensures.progress begun start deliveries (c.start_all.ensures.kept.deliveries ∙ reported) came.0 came.2 came.1)

pub returns-in-Ok-clause-throughout : goal.returns-in-Ok-clause-throughout
returns-in-Ok-clause-throughout g c = λ p start deliveries reported s w h.
    let begun = all_starts p c.args.starts.now in
    let ds = take c.args.most deliveries in
    let kept = c.start_all.ensures.throughout p start s w h in
    let came = c.in-Ok.ensures.progress p start s w h in
    let later = c.take_all.ensures.throughout begun start deliveries (c.start_all.ensures.kept.deliveries ∙ reported) came.0 came.2 came.1 in
    throughout_then g.D.Disk.moment g.D.Disk.left_since c.args.disk.now c.start_all.new.disk c.take_all.new.disk start.written (g.O.Sink.written c.start_all.new.out) (g.O.Sink.written c.take_all.new.out)
    begun (all_deliveries begun ds) (by_deliveries begun ds) (in_step_on p begun (by_starts p c.args.starts.now) s.in_step) kept.0 later

pub returns-in-Err-clause-at_most : goal.returns-in-Err-clause-at_most
returns-in-Err-clause-at_most g c = λ deliveries reported. (0, omega arith, c.start_all.ensures.kept.deliveries ∙ reported)

pub returns-in-Err-clause-kept : goal.returns-in-Err-clause-kept
returns-in-Err-clause-kept g c = λ p start deliveries reported s w h.
    let now : Outside = record { written = g.O.Sink.written c.start_all.new.out; sent = g.L.Link.sent c.start_all.new.link } in
    let begun = all_starts p c.args.starts.now in
    let ds = take c.args.most deliveries in
    end_on start now (g.D.Disk.may_leave c.start_all.new.disk) begun (all_deliveries begun ds) c.in-Err.fault (by_deliveries begun ds) (c.in-Err.ensures.progress p start s w h)

pub returns-in-Err-clause-throughout : goal.returns-in-Err-clause-throughout
returns-in-Err-clause-throughout g c = λ p start deliveries reported s w h.
    let begun = all_starts p c.args.starts.now in
    let ds = take c.args.most deliveries in
    throughout_on g.D.Disk.moment g.D.Disk.left_since c.args.disk.now c.start_all.new.disk start.written (g.O.Sink.written c.start_all.new.out)
    begun (all_deliveries begun ds) (by_deliveries begun ds) (in_step_on p begun (by_starts p c.args.starts.now) s.in_step) (c.start_all.ensures.throughout p start s w h).0
