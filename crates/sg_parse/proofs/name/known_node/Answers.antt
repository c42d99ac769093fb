use Rattle.std.proofs.Common.{refl}
use Rattle.sg_graph.specs.Parts.{node_names}
use Rattle.sg_parse.proofs.Names.{node_index}
use Rattle.sg_parse.proofs.Readings.{known_read}
use Rattle.sg_parse.proofs.name.known_node.Goals as goal

pub returns-in-Some-clause-reads : goal.returns-in-Some-clause-reads
returns-in-Some-clause-reads c =
    let g = c.args.graph.now in
    let index = node_index g c.in_ok-name.name c.in-Some.node c.nodes-count.ensures.graph c.in-Some.ensures.index.0 c.in-Some.ensures.index.1 in
    known_read (node_names g) c.args.scanner.now c.name.new.self c.in_ok-name.name c.in_ok-name.at c.in-Some.node c.in_ok-name.ensures.reads (c.in-Some.ensures.found.0 refl) index
