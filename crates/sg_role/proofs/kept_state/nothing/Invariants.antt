use Rattle.std.proofs.Common.{◌≡◌, map, None}
use Rattle.sg_model.specs.Lists.{below}
use Rattle.sg_role.proofs.kept_state.nothing.Given as goal

abbrev pub invariant-loop : goal.invariant-loop
invariant-loop g l = l.list.items ≡ map (λ x. None) (below l.counter)
