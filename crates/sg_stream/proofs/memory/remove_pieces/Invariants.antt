use Rattle.std.proofs.Common.{◌≡◌, ◌-◌, ◌≤◌, ◌++◌, length, take, drop}
use Rattle.sg_stream.specs.Traffic.{without}
use Rattle.sg_stream.proofs.memory.remove_pieces.Given as goal

abbrev pub invariant-loop-at : goal.invariant-loop-at
invariant-loop-at l = record {
  within : l.at ≤ length l.pieces.items;
  rest : without l.conn l.initial.pieces.items ≡ take l.at l.pieces.items ++ without l.conn (drop l.at l.pieces.items);
}

abbrev pub decreases-loop-at : goal.decreases-loop-at
decreases-loop-at l = length l.pieces.items - l.at
