-- What is seen of a text's first use before memory is asked for. The parts before its own use none, so they are expanded as they stand.
use Rattle.std.specs.Prelude.{ℕ, Bool, true, false, not, ◌&&◌, List, [], ◌∷◌, ◌++◌, Option, Some, None}
use Rattle.sg_protocol.specs.Graph.{Graph}
use Rattle.sg_parse.specs.Parts.{Use, Part}
use Rattle.sg_compose.specs.Expansion.{end_of, graph_at, has_long, roles_fit}

-- of a graph whose end is this: the roles fit, and no new name is too long
abbrev pub suits_at : Option ℕ → Graph → Graph → Use → Bool
suits_at None g inner u = false
suits_at (Some m) g inner u = roles_fit g inner u m && not (has_long inner u m)

-- the graph can be used, the roles fit, and no new name is too long
abbrev pub suits : Graph → Graph → Use → Bool
suits g inner u = suits_at (end_of inner) g inner u

-- what holds of the first use, or this if there is none
abbrev pub of_first : (Use → Bool) → List Use → Bool → Bool
of_first holds [] otherwise = otherwise
of_first holds (u ∷ us) otherwise = holds u

-- the first use in these parts suits, if the parts before them have these graphs
abbrev pub first_use_suits : List Graph → List Part → Bool
first_use_suits graphs [] = true
first_use_suits graphs (p ∷ ps) = of_first (λ u. suits p.graph (graph_at graphs u.part) u) p.uses (first_use_suits (graphs ++ p.graph ∷ []) ps)
