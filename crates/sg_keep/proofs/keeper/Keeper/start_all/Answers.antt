use Rattle.std.proofs.Common.{◌+◌, List, take, Ok, Err, refl, ◌∙◌, subst}
use Rattle.std.proofs.lemmas.List.{take_all}
use Rattle.sg_script.specs.Script.{Start as ScriptStart}
use Rattle.sg_play.specs.Ends.{Outside}
use Rattle.sg_play.specs.Played.{Play, all_starts, starts}
use Rattle.sg_play.proofs.Looping.{start_next}
use Rattle.sg_play.proofs.Running.{start_held}
use Rattle.sg_keep.specs.KeptRuns.{HasKept}
use Rattle.sg_keep.specs.Representation.{Progressed}
use Rattle.sg_keep.proofs.Asking.{holds_all}
use Rattle.sg_keep.proofs.AtMost.{kept_at, kept_early, leaves_next, not_asked_at_most}
use Rattle.sg_keep.proofs.Counting.{kept_then, none_kept}
use Rattle.sg_keep.proofs.Ending.{end_on, to_same}
use Rattle.sg_keep.proofs.Going.{by_start, by_starts, nothing, starts_on}
use Rattle.sg_keep.proofs.Moments.{all_held, more_none, more_on, more_then, not_asked}
use Rattle.sg_keep.proofs.Silent.{represents_silent, silent, whole_silent, written_since}
use Rattle.sg_keep.proofs.keeper.Keeper.start_all.Goals as goal

pub loop-start-init : goal.loop-start-init
loop-start-init g c = record { kept = none_kept tt; holds = c.requires.holds; more = more_none c.args.self.now.ledger.joins; any_moment = not_asked g.D.Disk.moment g.D.Disk.left_since c.args.disk.now (g.D.Disk.may_leave c.args.disk.now) (g.met.D.Disk.only_now c.args.disk.now) c.args.self.now.ledger.joins (all_held c.args.self.now (g.D.Disk.may_leave c.args.disk.now) c.requires.holds); programs = refl; leaves_at_most = λ p start s w h. not_asked_at_most g.D.Disk.moment g.D.Disk.left_since c.args.disk.now (g.D.Disk.may_leave c.args.disk.now) (g.met.D.Disk.only_now c.args.disk.now) p p (nothing p) (holds_all c.args.self.now (g.D.Disk.may_leave c.args.disk.now) p c.requires.holds s); progress = λ p start s w h. (s, h, w) }

pub loop-start-preserved : goal.loop-start-preserved
loop-start-preserved g c =
    let inv = c.loop-start.invariant in
    let one = c.in-Ok.ensures in
    record {
      kept = kept_then inv.kept one.kept;
      holds = one.holds;
      more = more_then c.args.self.now.ledger.joins c.loop-start.self.ledger.joins c.start_one.new.self.ledger.joins inv.more one.more;
      any_moment = more_on g.D.Disk.moment g.D.Disk.left_since c.args.disk.now c.loop-start.disk c.start_one.new.disk c.args.self.now.ledger.joins c.loop-start.self.ledger.joins inv.more inv.any_moment c.start_one.ensures.any_moment;
      programs = one.programs ∙ inv.programs;
      leaves_at_most = λ p start s w h.
          let at = c.loop-start.start-index in
          let so_far : Play = all_starts p (take at c.args.starts.now) in
          let next : Play = starts so_far c.start-item.result in
          let before = inv.progress p start s w h in
          leaves_next g.D.Disk.moment g.D.Disk.left_since c.args.disk.now c.loop-start.disk c.start_one.new.disk so_far next (all_starts p (take (at + 1) c.args.starts.now))
          (start_next p at c.args.starts.now c.start-item.result c.loop-start-test.true c.start-item.is) (by_start so_far c.start-item.result) (inv.leaves_at_most p start s w h) (one.leaves_at_most so_far before.0 before.2);
      progress = λ p start s w h.
          let now : Outside = record { written = g.O.Sink.written c.start_one.new.out; sent = g.L.Link.sent c.start_one.new.link } in
          let at = c.loop-start.start-index in
          let so_far : Play = all_starts p (take at c.args.starts.now) in
          let before = inv.progress p start s w h in
          to_same start now (g.D.Disk.may_leave c.start_one.new.disk) c.start_one.new.self (g.R.Fresh.random c.start_one.new.fresh) (starts so_far c.start-item.result) (all_starts p (take (at + 1) c.args.starts.now)) (Ok tt)
          (start_next p at c.args.starts.now c.start-item.result c.loop-start-test.true c.start-item.is) (one.progress so_far start before.0 before.2 before.1);
    }

pub start_one-requires : goal.start_one-requires
start_one-requires g c =
    let inv = c.loop-start.invariant in
    record {
      holds = inv.holds;
      start = start_held c.args.self.now.player.programs.now c.loop-start.self.player.programs.now c.args.starts.now c.loop-start.start-index c.start-item.result c.requires.starts inv.programs c.loop-start-test.true c.start-item.is;
    }

pub returns-in-Err-clause-kept : goal.returns-in-Err-clause-kept
returns-in-Err-clause-kept g c = kept_then c.loop-start.invariant.kept c.in-Err.ensures.kept

pub returns-in-Err-clause-progress : goal.returns-in-Err-clause-progress
returns-in-Err-clause-progress g c = λ p start s w h.
    let now : Outside = record { written = g.O.Sink.written c.start_one.new.out; sent = g.L.Link.sent c.start_one.new.link } in
    let leaves = g.D.Disk.may_leave c.start_one.new.disk in
    let at = c.loop-start.start-index in
    let so_far : Play = all_starts p (take at c.args.starts.now) in
    let before = c.loop-start.invariant.progress p start s w h in
    end_on start now leaves (all_starts p (take (at + 1) c.args.starts.now)) (all_starts p c.args.starts.now) c.in-Err.fault (starts_on p (at + 1) c.args.starts.now)
    (subst (λ (z : Play). HasKept start now leaves z (Err c.in-Err.fault)) (start_next p at c.args.starts.now c.start-item.result c.loop-start-test.true c.start-item.is) (c.in-Err.ensures.progress so_far start before.0 before.2 before.1))

pub returns-clause-progress : goal.returns-clause-progress
returns-clause-progress g c = λ p start s w h.
    let now : Outside = record { written = g.O.Sink.written c.loop-start.out; sent = g.L.Link.sent c.loop-start.link } in
    subst (λ (z : List ScriptStart). Progressed start now (g.D.Disk.may_leave c.loop-start.disk) c.loop-start.self (g.R.Fresh.random c.loop-start.fresh) (all_starts p z) (Ok tt)) (take_all c.loop-start.start-index c.args.starts.now c.loop-start-test.false) (c.loop-start.invariant.progress p start s w h)

pub returns-in-Err-clause-any_moment : goal.returns-in-Err-clause-any_moment
returns-in-Err-clause-any_moment g c =
    let inv = c.loop-start.invariant in
    more_on g.D.Disk.moment g.D.Disk.left_since c.args.disk.now c.loop-start.disk c.start_one.new.disk c.args.self.now.ledger.joins c.loop-start.self.ledger.joins inv.more inv.any_moment c.start_one.ensures.any_moment

pub returns-in-Err-clause-throughout : goal.returns-in-Err-clause-throughout
returns-in-Err-clause-throughout g c = λ p start s w h.
    let inv = c.loop-start.invariant in
    let leaves = g.D.Disk.may_leave c.start_one.new.disk in
    let at = c.loop-start.start-index in
    let mid : Outside = record { written = g.O.Sink.written c.loop-start.out; sent = g.L.Link.sent c.loop-start.link } in
    let now : Outside = record { written = g.O.Sink.written c.start_one.new.out; sent = g.L.Link.sent c.start_one.new.link } in
    let from : Outside = record { written = mid.written; sent = start.sent } in
    let so_far : Play = all_starts p (take at c.args.starts.now) in
    let next : Play = starts so_far c.start-item.result in
    let all : Play = all_starts p c.args.starts.now in
    let before = inv.progress p start s w h in
    let is = start_next p at c.args.starts.now c.start-item.result c.loop-start-test.true c.start-item.is in
    let more = written_since from now leaves (starts (silent so_far) c.start-item.result) c.in-Err.fault
    (c.in-Err.ensures.progress (silent so_far) from (represents_silent c.loop-start.self so_far before.0) before.2 (whole_silent start mid so_far before.1)) in
    kept_early g.D.Disk.moment g.D.Disk.left_since c.args.disk.now c.loop-start.disk c.start_one.new.disk start.written mid.written now.written p so_far next (all_starts p (take (at + 1) c.args.starts.now)) all is
    (by_starts p (take at c.args.starts.now)) (by_start so_far c.start-item.result) (starts_on p (at + 1) c.args.starts.now) (starts_on p at c.args.starts.now) before.0.in_step before.1.lines more
    (inv.leaves_at_most p start s w h) (c.start_one.ensures.leaves_at_most so_far before.0 before.2)

pub returns-clause-throughout : goal.returns-clause-throughout
returns-clause-throughout g c = λ p start s w h.
    let inv = c.loop-start.invariant in
    let at = c.loop-start.start-index in
    let so_far : Play = all_starts p (take at c.args.starts.now) in
    let before = inv.progress p start s w h in
    kept_at g.D.Disk.moment g.D.Disk.left_since c.args.disk.now c.loop-start.disk start.written (g.O.Sink.written c.loop-start.out) p so_far (all_starts p c.args.starts.now) (by_starts p (take at c.args.starts.now)) (starts_on p at c.args.starts.now)
    before.0.in_step before.1.lines (inv.leaves_at_most p start s w h)
