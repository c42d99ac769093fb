use Rattle.sg_script.proofs.NameLaws.{node_is}
use Rattle.sg_script.proofs.graph.node_of.Goals as goal

pub returns : goal.returns
returns c =
    let found = node_is c.args.graph.now c.in_ok-name.name c.find_node.result c.nodes-count.ensures.graph c.find_node.ensures.found c.find_node.ensures.index in
    rw (← c.read_name.ensures, c.in_ok-name.was) found
