-- What a graph has by number, of what the program holds.
use Rattle.std.proofs.Common.{◌<◌, List, [], ◌∷◌, map, length, All}
use Rattle.std.specs.List.{AllByRecursion}
use Rattle.std.proofs.lemmas.List.Elements.{All-from_recursion}
use Rattle.sg_protocol.specs.Graph.{Graph}
use Rattle.sg_walk.specs.Model.{step_of}
use Rattle.sg_walk.specs.declared.stored.StoredStep.{StoredStep}
use Rattle.sg_text.specs.Walks.{HasSteps}

-- the step's label is one of the graph
abbrev pub HasStep : Graph → StoredStep → Type 0
HasStep g s = s.label < length g.edges

each_step : (g : Graph) (steps : List StoredStep) → HasSteps g (map step_of steps) → AllByRecursion (HasStep g) steps
each_step g [] h = tt
each_step g (s ∷ ss) h = (h.0, each_step g ss h.1)

-- the graph has each step
pub has_steps : (g : Graph) (steps : List StoredStep) → HasSteps g (map step_of steps) → All (HasStep g) steps
has_steps g steps h = All-from_recursion (HasStep g) steps (each_step g steps h)
