use Rattle.sg_base.proofs.SetLaws.{members-zero}
use Rattle.sg_base.proofs.sets.VarSet.empty.Goals as goal

pub returns : goal.returns
returns c = members-zero 32
