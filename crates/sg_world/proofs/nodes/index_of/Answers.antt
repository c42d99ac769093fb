use Rattle.sg_world.proofs.ByName.{found_name}
use Rattle.sg_world.proofs.nodes.index_of.Goals as goal

pub returns : goal.returns
returns c = found_name c.args.who.now c.args.nodes.now.entries c.get_index_of.result c.get_index_of.ensures.index
