-- How stored walks are written.
use Rattle.std.specs.Prelude.{ℕ, ◌<◌, Bool, if◌then◌else◌, List, [], ◌∷◌, ◌++◌, map, flat_map, length, codes, Option}
use Rattle.std.specs.List.{AllByRecursion}
use Rattle.sg_model.specs.Last.{Map}
use Rattle.sg_model.specs.Shape.{sender}
use Rattle.sg_model.specs.Values.{Value}
use Rattle.sg_protocol.specs.Graph.{Graph, shape}
use Rattle.sg_protocol.specs.Walk.{StoredStep}
use Rattle.sg_graph.specs.Parts.{edge_name}
use Rattle.sg_text.specs.Values.{assigned, value_or_hidden}

-- a variable and what a step writes to it
abbrev pub write_text : Graph → ℕ × Option Value → List ℕ
write_text g w = assigned g w.0 (value_or_hidden w.1)

-- the texts with commas between them
abbrev pub with_commas : List (List ℕ) → List ℕ
with_commas [] = []
with_commas (t ∷ ts) = t ++ flat_map (λ u. 44 ∷ u) ts

-- what a step writes, between brackets if it is something
abbrev pub written : Graph → Map (Option Value) → List ℕ
written g [] = []
written g (w ∷ ws) = 40 ∷ with_commas (map (write_text g) (w ∷ ws)) ++ 41 ∷ []

-- a space and a step, with * if its sender is not honest
abbrev pub step_text : Graph → (honest : ℕ → Bool) → StoredStep → List ℕ
step_text g honest s = 32 ∷ (if honest (sender (shape g) s.label) then [] else codes "*") ++ edge_name g s.label ++ written g s.writes

-- the line of a walk in a session of this name
abbrev pub walk_line : (session : List ℕ) → Graph → (honest : ℕ → Bool) → List StoredStep → List ℕ
walk_line session g honest steps = codes "walk " ++ session ++ 58 ∷ flat_map (step_text g honest) steps ++ 10 ∷ []

-- the graph has the label of each step
abbrev pub HasSteps : Graph → List StoredStep → Type 0
HasSteps g steps = AllByRecursion (λ s. s.label < length g.edges) steps
