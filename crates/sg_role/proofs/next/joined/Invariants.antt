use Rattle.std.proofs.Common.{◌≡◌}
use Rattle.sg_model.specs.Last.{merge}
use Rattle.sg_model.specs.Lists.{in_order}
use Rattle.sg_role.proofs.next.joined.Given as goal

abbrev pub invariant-loop-number : goal.invariant-loop-number
invariant-loop-number l = l.list ≡ in_order l.number (merge l.earlier l.later)
