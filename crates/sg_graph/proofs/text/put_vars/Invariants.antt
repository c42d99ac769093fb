use Rattle.std.proofs.Common.{◌≡◌, ◌++◌, take}
use Rattle.std.specs.Prelude.{flat_map}
use Rattle.sg_protocol.specs.Graph.{variable_line}
use Rattle.sg_graph.proofs.text.put_vars.Given as goal

abbrev pub invariant-loop-number : goal.invariant-loop-number
invariant-loop-number l = l.out ≡ l.initial.out ++ flat_map (variable_line l.graph) (take l.number l.graph.variables)
