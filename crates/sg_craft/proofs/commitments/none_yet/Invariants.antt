use Rattle.std.proofs.Common.{◌≡◌, None, replicate}
use Rattle.sg_craft.proofs.commitments.none_yet.Given as goal

abbrev pub invariant-loop : goal.invariant-loop
invariant-loop l = l.current.items ≡ replicate l.counter None
