use Rattle.sg_script.proofs.NameLaws.{label_is}
use Rattle.sg_script.proofs.graph.label_of.Goals as goal

pub returns : goal.returns
returns c =
    let found = label_is c.args.graph.now c.in_ok-name.name c.find_edge.result c.edges-count.ensures.graph c.find_edge.ensures.found c.find_edge.ensures.index in
    rw (← c.read_name.ensures, c.in_ok-name.was) found
