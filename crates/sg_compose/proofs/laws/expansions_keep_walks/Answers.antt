use Rattle.sg_compose.proofs.Keeps.{all-keep}
use Rattle.sg_compose.proofs.laws.expansions_keep_walks.Goals as goal

pub returns : goal.returns
returns c = all-keep
