use Rattle.std.proofs.Common.{◌≡◌, ◌≤◌, ℕ, List, Some, drop}
use Rattle.sg_system.proofs.descriptors.hold_standard.Given as goal

abbrev pub invariant-loop : goal.invariant-loop
invariant-loop g l = record {
  never_falls : g.D.Descriptors.faults l.initial.descriptors ≤ g.D.Descriptors.faults l.descriptors;
  left : (all : List ℕ) → g.D.Descriptors.free l.initial.descriptors ≡ Some all → g.D.Descriptors.free l.descriptors ≡ Some (drop l.counter all);
}
