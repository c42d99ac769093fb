use Rattle.sg_know.specs.Parts.{IsFirstBad}
use Rattle.sg_know.proofs.First.{IsBadBelow}
use Rattle.sg_know.proofs.bad.bad_read_of_var.Given as goal

abbrev pub invariant-loop-number : goal.invariant-loop-number
invariant-loop-number l = IsFirstBad l.graph (IsBadBelow l.graph l.var l.number) l.first
