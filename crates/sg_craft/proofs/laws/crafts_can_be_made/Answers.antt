use Rattle.sg_craft.proofs.MeansLaws.{made_by_means, can_by_means}
use Rattle.sg_craft.proofs.laws.crafts_can_be_made.Goals as goal

pub returns-clause-made : goal.returns-clause-made
returns-clause-made c = made_by_means

pub returns-clause-can : goal.returns-clause-can
returns-clause-can c = can_by_means
