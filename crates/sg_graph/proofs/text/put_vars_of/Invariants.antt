use Rattle.std.proofs.Common.{◌≡◌, ◌++◌, nat_lt, map, filter}
use Rattle.sg_protocol.specs.Graph.{variable_name, spaced}
use Rattle.sg_graph.proofs.text.put_vars_of.Given as goal

abbrev pub invariant-loop-number : goal.invariant-loop-number
invariant-loop-number l = l.out ≡ l.initial.out ++ spaced (map (variable_name l.graph) (filter (λ x. nat_lt x l.number) l.vars))
