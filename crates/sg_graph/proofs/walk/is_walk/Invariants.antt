use Rattle.std.proofs.Common.{◌<◌, ◌↔◌, length, drop}
use Rattle.sg_model.specs.Shape.{Walk}
use Rattle.sg_protocol.specs.Graph.{shape}
use Rattle.sg_graph.proofs.walk.is_walk.Given as goal

abbrev pub invariant-loop-label : goal.invariant-loop-label
invariant-loop-label l = record {
  there : l.at < length l.graph.nodes;
  rest : Walk (shape l.graph) l.fn.from l.labels ↔ Walk (shape l.graph) l.at (drop l.label-index l.labels);
}
