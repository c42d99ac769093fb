use Rattle.std.proofs.Common.{◌≡◌, length, ◌-◌, ◌≤◌, take}
use Rattle.std.specs.Option.{option_map}
use Rattle.sg_stream.specs.Counts.{total}
use Rattle.sg_stream.specs.Traffic.{after_give}
use Rattle.sg_stream.proofs.sending.give_all.Given as goal

abbrev pub invariant-loop-at : goal.invariant-loop-at
invariant-loop-at g l = record {
  within : l.at ≤ length l.bytes;
  bound : g.C.Conns.bound l.conns ≡ g.C.Conns.bound l.initial.conns;
  never_falls : total (g.C.Conns.faults l.initial.conns) ≤ total (g.C.Conns.faults l.conns);
  counted : g.C.Conns.faults l.conns ≡ record (g.C.Conns.faults l.initial.conns) { gives = (g.C.Conns.faults l.conns).gives };
  prefix : g.C.Conns.held l.conns ≡ option_map (after_give l.conn (take l.at l.bytes)) (g.C.Conns.held l.initial.conns);
}

abbrev pub decreases-loop-at : goal.decreases-loop-at
decreases-loop-at g l = length l.bytes - l.at
