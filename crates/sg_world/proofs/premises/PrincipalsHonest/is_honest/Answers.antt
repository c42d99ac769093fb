use Rattle.std.proofs.Common.{◌∙◌}
use Rattle.sg_world.proofs.PremiseLaws.{has_node}
use Rattle.sg_world.proofs.premises.PrincipalsHonest.is_honest.Goals as goal

pub returns : goal.returns
returns c = c.is_some.ensures ∙ has_node c.args.self.now.nodes.now.entries c.args.name.now c.index_of.result c.index_of.ensures
