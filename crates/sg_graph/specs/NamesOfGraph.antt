-- The names of a graph, as texts have them.
use Rattle.std.specs.Prelude.{ℕ, List, ◌∷◌, ◌++◌, flat_map}
use Rattle.sg_protocol.specs.Graph.{Graph, variable_name}
use Rattle.sg_graph.specs.Parts.{edge_name}

-- a label and a variable
abbrev pub label_and_var_text : Graph → ℕ → ℕ → List ℕ
label_and_var_text g e x = edge_name g e ++ 32 ∷ variable_name g x

-- the labels of a walk, each after a space
abbrev pub walk_text : Graph → List ℕ → List ℕ
walk_text g walk = flat_map (λ e. 32 ∷ edge_name g e) walk
