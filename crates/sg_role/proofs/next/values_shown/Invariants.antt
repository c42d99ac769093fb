use Rattle.std.proofs.Common.{◌≡◌, map, take}
use Rattle.sg_walk.specs.Model.{values_of}
use Rattle.sg_role.proofs.next.values_shown.Given as goal

abbrev pub invariant-loop-at : goal.invariant-loop-at
invariant-loop-at l = values_of l.list ≡ map (λ o. (o.variable, o.value)) (take l.at l.openings)
