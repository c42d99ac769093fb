-- The steps of a stored walk are the graph's, and how they are written.
use Rattle.std.proofs.Common.{◌≡◌, ℕ, ◌<◌, Bool, ap, refl, subst, List, [], ◌∷◌, ◌++◌, if◌then◌else◌}
use Rattle.std.specs.Prelude.{flat_map, codes}
use Rattle.std.proofs.lemmas.List.{length-map}
use Rattle.sg_model.specs.Shape.{Walk, sender, target}
use Rattle.sg_protocol.specs.Graph.{Graph, shape}
use Rattle.sg_protocol.specs.Walk.{StoredStep, IsStoredWalk, labels}
use Rattle.sg_graph.specs.Parts.{edge_name}
use Rattle.sg_text.specs.Walks.{HasSteps, step_text, walk_line, written}

steps_from : (g : Graph) (m : ℕ) (steps : List StoredStep) → Walk (shape g) m (labels steps) → HasSteps g steps
steps_from g m [] w = tt
steps_from g m (s ∷ ss) w = (subst (λ n. s.label < n) (length-map g.edges _) w.0, steps_from g (target (shape g) s.label) ss w.2)

-- a graph has the steps of its stored walks
pub HasSteps-IsStoredWalk : (g : Graph) (steps : List StoredStep) → IsStoredWalk g steps → HasSteps g steps
HasSteps-IsStoredWalk g steps w = steps_from g 0 steps w.walk

-- a walk is written the same, whichever test says which roles are honest
module _ (session : List ℕ) (g : Graph) (one two : ℕ → Bool) (same : (r : ℕ) → one r ≡ two r) where
  steps_same : (steps : List StoredStep) → flat_map (step_text g one) steps ≡ flat_map (step_text g two) steps
  steps_same [] = refl
  steps_same (s ∷ ss) =
      let here : step_text g one s ≡ step_text g two s = ap (λ b. 32 ∷ (if b then [] else codes "*") ++ edge_name g s.label ++ written g s.writes) (same (sender (shape g) s.label)) in
      let rest : flat_map (step_text g one) ss ≡ flat_map (step_text g two) ss = steps_same ss in
      λ i. here i ++ rest i

  pub walk_line-same : (steps : List StoredStep) → walk_line session g one steps ≡ walk_line session g two steps
  walk_line-same steps = ap (λ t. codes "walk " ++ session ++ 58 ∷ t ++ 10 ∷ []) (steps_same steps)
