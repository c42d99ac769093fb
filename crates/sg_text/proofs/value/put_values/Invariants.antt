use Rattle.std.proofs.Common.{◌≡◌, ◌++◌, take}
use Rattle.sg_text.specs.Values.{values_text}
use Rattle.sg_walk.specs.Model.{values_of}
use Rattle.sg_text.proofs.value.put_values.Given as goal

abbrev pub invariant-loop-at : goal.invariant-loop-at
invariant-loop-at l = l.out ≡ l.initial.out ++ values_text l.graph (values_of (take l.at l.values))
