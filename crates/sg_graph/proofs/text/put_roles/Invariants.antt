use Rattle.std.proofs.Common.{◌≡◌, ◌++◌, take}
use Rattle.std.specs.Prelude.{flat_map, codes}
use Rattle.sg_protocol.specs.Graph.{Name, ended}
use Rattle.sg_graph.proofs.text.put_roles.Given as goal

abbrev pub invariant-loop-number : goal.invariant-loop-number
invariant-loop-number l = l.out ≡ l.initial.out ++ flat_map (λ (r : Name). ended (codes "role " ++ r)) (take l.number l.graph.roles)
