use Rattle.std.proofs.Common.{◌≤◌, ◌-◌}
use Rattle.sg_ledger.specs.Format.{SlotsRepresent}
use Rattle.sg_ledger.proofs.slots.read_slots.Given as goal

abbrev pub invariant-loop-slot : goal.invariant-loop-slot
invariant-loop-slot l = record {
  within : l.slot ≤ 65536;
  so_far : SlotsRepresent l.file l.slot l.joins.keys;
}

abbrev pub decreases-loop-slot : goal.decreases-loop-slot
decreases-loop-slot l = 65536 - l.slot
