use Rattle.std.proofs.Common.{◌≡◌, length, ◌-◌, ◌≤◌, take}
use Rattle.sg_base.specs.Outside.{Appends}
use Rattle.sg_base.proofs.outside.write_all.Given as goal

abbrev pub invariant-loop-at : goal.invariant-loop-at
invariant-loop-at g l = record {
  within : l.at ≤ length l.text;
  no_fault : g.O.Sink.faults l.out ≡ g.O.Sink.faults l.initial.out;
  prefix : Appends (g.O.Sink.written l.initial.out) (g.O.Sink.written l.out) (take l.at l.text);
}

abbrev pub decreases-loop-at : goal.decreases-loop-at
decreases-loop-at g l = length l.text - l.at
