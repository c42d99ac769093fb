use Rattle.std.proofs.Common.{◌≡◌, take}
use Rattle.sg_graph.specs.Parts.{edge_names}
use Rattle.sg_claims_text.proofs.label_names.LabelNames.of_graph.Given as goal

abbrev pub invariant-labels : goal.invariant-labels
invariant-labels l = l.names ≡ take l.number (edge_names l.graph)
