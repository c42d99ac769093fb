use Rattle.std.proofs.Common.{◌≡◌, ◌++◌, ◌∷◌, take, ℕ}
use Rattle.std.specs.Prelude.{flat_map}
use Rattle.sg_graph.specs.Parts.{edge_name}
use Rattle.sg_graph.proofs.named.put_walk.Given as goal

abbrev pub invariant-loop-label : goal.invariant-loop-label
invariant-loop-label l = l.out ≡ l.initial.out ++ flat_map (λ (e : ℕ). 32 ∷ edge_name l.graph e) (take l.label-index l.walk)
