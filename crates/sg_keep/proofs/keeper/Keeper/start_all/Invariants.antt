use Rattle.std.proofs.Common.{◌≡◌, Some, Ok, length, take}
use Rattle.sg_ledger.specs.Disk.{LeavesOnly}
use Rattle.sg_play.specs.Ends.{Outside, Whole}
use Rattle.sg_play.specs.Played.{Play, all_starts}
use Rattle.sg_keep.specs.Around.{KeepsBound}
use Rattle.sg_keep.specs.KeptRuns.{LeavesAtMost, RepresentsMore}
use Rattle.sg_keep.specs.Representation.{Progressed, HasMore, HoldsJoins, RepresentsKept}
use Rattle.sg_keep.proofs.keeper.Keeper.start_all.Given as goal

abbrev pub invariant-loop-start : goal.invariant-loop-start
invariant-loop-start g l = record {
  kept : KeepsBound {A = Unit {0}} g.L.Link g.O.Sink g.D.Disk l.initial.link l.link l.initial.out l.out l.initial.disk l.disk (Ok tt);
  holds : HoldsJoins l.self (g.D.Disk.may_leave l.disk);
  more : HasMore l.initial.self.ledger.joins l.self.ledger.joins;
  any_moment : LeavesOnly g.D.Disk.moment g.D.Disk.left_since l.initial.disk l.disk (RepresentsMore l.initial.self.ledger.joins);
  programs : l.self.player.programs.now ≡ l.initial.self.player.programs.now;
  leaves_at_most : (p : Play) (start : Outside) → RepresentsKept l.initial.self p → g.R.Fresh.random l.initial.fresh ≡ Some p.random → Whole start (record { written = g.O.Sink.written l.initial.out; sent = g.L.Link.sent l.initial.link }) p.steps
      → LeavesAtMost g.D.Disk.moment g.D.Disk.left_since l.initial.disk l.disk (all_starts p (take l.start-index l.starts)) (length (all_starts p (take l.start-index l.starts)).past.calls);
  progress : (p : Play) (start : Outside) → RepresentsKept l.initial.self p → g.R.Fresh.random l.initial.fresh ≡ Some p.random → Whole start (record { written = g.O.Sink.written l.initial.out; sent = g.L.Link.sent l.initial.link }) p.steps
      → Progressed start (record { written = g.O.Sink.written l.out; sent = g.L.Link.sent l.link }) (g.D.Disk.may_leave l.disk) l.self (g.R.Fresh.random l.fresh) (all_starts p (take l.start-index l.starts)) (Ok tt);
}
