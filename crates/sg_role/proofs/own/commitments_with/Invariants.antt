use Rattle.std.proofs.Common.{◌≡◌}
use Rattle.sg_role.specs.Stepping.{commitments_after}
use Rattle.sg_role.proofs.own.commitments_with.Given as goal

abbrev pub invariant-loop-number : goal.invariant-loop-number
invariant-loop-number l = l.list.items ≡ commitments_after l.number l.commitments l.delta
