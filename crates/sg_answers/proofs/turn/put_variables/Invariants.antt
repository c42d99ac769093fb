use Rattle.std.proofs.Common.{nat_lt, filter}
use Rattle.sg_answers.proofs.VariableLaws.{Written}
use Rattle.sg_answers.proofs.turn.put_variables.Given as goal

abbrev pub invariant-loop-number : goal.invariant-loop-number
invariant-loop-number l = Written l.graph (filter (λ x. nat_lt x l.number) l.vars) l.initial.out l.out l.mark
