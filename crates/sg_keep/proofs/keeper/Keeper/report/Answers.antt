use Rattle.std.proofs.Common.{◌∙◌, refl, ap}
use Rattle.sg_play.specs.Around.{outside_of}
use Rattle.sg_play.specs.declared.player.Player.{Player}
use Rattle.sg_keep.proofs.Asking.{asked_then, holds_on, represents_kept, unkept, unplayed}
use Rattle.sg_keep.proofs.Counting.{counted_then, kept_counted, played_counted, unkept_counted, unplayed_counted}
use Rattle.sg_keep.proofs.keeper.Keeper.report.Goals as goal

pub returns-in-Err-clause-kept : goal.returns-in-Err-clause-kept
returns-in-Err-clause-kept g c = record { link_bound = refl; disk_bound = c.keep_join.ensures.disk_bound; deliveries = refl; faults = unkept_counted c.in-Err.ensures.causes c.in-Err.ensures.faults }

pub returns-in-Err-clause-progress : goal.returns-in-Err-clause-progress
returns-in-Err-clause-progress g c = λ p k start a w h.
    unkept start (outside_of g.L.Link g.O.Sink c.args.link.now c.args.out.now) (g.D.Disk.may_leave c.keep_join.new.disk) c.args.self.now p k c.args.outcome.now a
    c.in-Err.fault c.in-Err.ensures.causes c.in-Err.ensures.images h

pub returns-in-Ok-go_on : goal.returns-in-Ok-go_on
returns-in-Ok-go_on g c =
    let kept = c.in-Ok.ensures in
    let played = c.in-Ok-go_on.ensures in
    let m = c.keep_join.new.self in
    let leaves = g.D.Disk.may_leave c.keep_join.new.disk in
    let now = outside_of g.L.Link g.O.Sink c.go_on.new.link c.go_on.new.out in
    record {
      kept = record { link_bound = played.kept.bound; disk_bound = c.keep_join.ensures.disk_bound; deliveries = played.kept.deliveries; faults = counted_then (kept_counted kept.faults) (played_counted played.kept.faults) };
      holds = holds_on m (record m { player = c.go_on.new.self }) leaves kept.holds refl played.joins;
      more = kept.more;
      programs = played.programs ∙ ap (λ (pl : Player). pl.programs.now) c.keep_join.ensures.player;
      any_moment = c.keep_join.ensures.any_moment;
      leaves_at_most = c.keep_join.ensures.leaves_at_most;
      progress = λ p k start a w h.
          let old = c.args.self.now in
          let outcome = c.args.outcome.now in
          let same = c.keep_join.ensures.player in
          let turn = played.progress p k start (asked_then start now leaves old p k outcome a m same kept.holds) a.stays w h in
          (represents_kept start now leaves old p k outcome a m same kept.holds (record m { player = c.go_on.new.self }) turn.0.0, turn.0.1, turn.1);
    }

pub returns-in-Err-go_on-clause-kept : goal.returns-in-Err-go_on-clause-kept
returns-in-Err-go_on-clause-kept g c =
    let played = c.in-Err-go_on.ensures.kept in
    record { link_bound = played.bound; disk_bound = c.keep_join.ensures.disk_bound; deliveries = played.deliveries; faults = counted_then (kept_counted c.in-Ok.ensures.faults) (unplayed_counted played.faults) }

pub returns-in-Err-go_on-clause-progress : goal.returns-in-Err-go_on-clause-progress
returns-in-Err-go_on-clause-progress g c = λ p k start a w h.
    let m = c.keep_join.new.self in
    let leaves = g.D.Disk.may_leave c.keep_join.new.disk in
    let now = outside_of g.L.Link g.O.Sink c.go_on.new.link c.go_on.new.out in
    unplayed start now leaves c.args.self.now p k c.args.outcome.now a m c.keep_join.ensures.player c.in-Ok.ensures.holds c.in-Err-go_on.fault
    (c.in-Err-go_on.ensures.progress p k start (asked_then start now leaves c.args.self.now p k c.args.outcome.now a m c.keep_join.ensures.player c.in-Ok.ensures.holds) a.stays w h)
