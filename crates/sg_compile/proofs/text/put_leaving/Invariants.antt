use Rattle.std.proofs.Common.{◌≡◌, ◌++◌, map, take}
use Rattle.sg_protocol.specs.Graph.{spaced}
use Rattle.sg_graph.specs.Parts.{edge_name}
use Rattle.sg_compile.proofs.text.put_leaving.Given as goal

abbrev pub invariant-loop-label : goal.invariant-loop-label
invariant-loop-label l = l.out ≡ l.initial.out ++ spaced (map (edge_name l.graph) (take l.label-index l.label-items))
