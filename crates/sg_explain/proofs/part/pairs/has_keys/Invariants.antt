use Rattle.sg_explain.proofs.Pairs.{Keyed}
use Rattle.sg_explain.proofs.part.pairs.has_keys.Given as goal

abbrev pub invariant-loop-number : goal.invariant-loop-number
invariant-loop-number g l = Keyed l.pairs l.vars l.index l.number
