use Rattle.sg_world.proofs.ByName.{new_name, nodes_more}
use Rattle.sg_world.proofs.nodes.nodes_of.Goals as goal

pub add_node-requires-clause-absent : goal.add_node-requires-clause-absent
add_node-requires-clause-absent c = new_name c.args.keys.now c.args.programs.now c.args.honest.now c.loop-me.me-index c.me-item.result c.loop-me.nodes.entries c.loop-me.invariant c.requires.different c.loop-me-test.true c.me-item.is

pub loop-me-preserved : goal.loop-me-preserved
loop-me-preserved c = nodes_more c.args.keys.now c.args.programs.now c.args.honest.now c.loop-me.me-index c.me-item.result c.loop-me.nodes.entries c.add_node.new.nodes.entries c.loop-me.invariant c.loop-me-test.true c.me-item.is c.in_ok-add_node.ensures
