use Rattle.std.proofs.Common.{◌≡◌, ◌≤◌}
use Rattle.sg_stream.specs.Counts.{total}
use Rattle.sg_stream.specs.Link.{IsIdle, to_come, sent_of, TakenOff}
use Rattle.sg_stream.proofs.link.next_frame.Given as goal

-- the pieces that were taken had no whole message, and the frames to come are the same
abbrev pub invariant-loop : goal.invariant-loop
invariant-loop g l = record {
  idle : IsIdle l.incoming;
  never_falls : total (g.C.Conns.faults l.fn.conns) ≤ total (g.C.Conns.faults l.conns);
  counted : g.C.Conns.faults l.conns ≡ record (g.C.Conns.faults l.fn.conns) { takes = (g.C.Conns.faults l.conns).takes };
  bound : g.C.Conns.bound l.conns ≡ g.C.Conns.bound l.fn.conns;
  same : to_come l.incoming (g.C.Conns.held l.conns) ≡ to_come l.fn.incoming (g.C.Conns.held l.fn.conns);
  sent : sent_of (g.C.Conns.held l.conns) ≡ sent_of (g.C.Conns.held l.fn.conns);
  pieces : TakenOff l.counter (g.C.Conns.held l.fn.conns) (g.C.Conns.held l.conns);
}
