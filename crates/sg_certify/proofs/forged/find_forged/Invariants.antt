use Rattle.sg_certify.proofs.ForgedLaws.{Through}
use Rattle.sg_certify.proofs.forged.find_forged.Given as goal

abbrev pub invariant-loop-index : goal.invariant-loop-index
invariant-loop-index g l = Through (g.H.Honest.names l.honest) l.notes l.index l.tagged
