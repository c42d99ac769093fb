use Rattle.std.proofs.Common.{◌≡◌, false, take}
use Rattle.std.specs.List.{list_any}
use Rattle.sg_protocol.specs.Graph.{Variable}
use Rattle.sg_model.specs.Lists.{has_text}
use Rattle.sg_graph.specs.Parts.{variable_names}
use Rattle.sg_compose.specs.Expansion.{inner_name}
use Rattle.sg_compose.proofs.fit.has_var.Given as goal

abbrev pub invariant-loop-number : goal.invariant-loop-number
invariant-loop-number l = list_any (λ (v : Variable). has_text (inner_name l.used v.name) (variable_names l.graph)) (take l.number l.inner.variables) ≡ false
