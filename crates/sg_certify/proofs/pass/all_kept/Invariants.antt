use Rattle.std.proofs.Common.{◌≡◌, nat_lt, map, filter}
use Rattle.sg_walk.specs.Model.{writes_of}
use Rattle.sg_certify.specs.Filling.{value_in}
use Rattle.sg_certify.proofs.pass.all_kept.Given as goal

abbrev pub invariant-loop-number : goal.invariant-loop-number
invariant-loop-number l = writes_of l.writes.items ≡ map (λ x. (x, value_in l.fn.kept x)) (filter (λ x. nat_lt x l.number) l.vars)
