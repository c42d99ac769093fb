-- What a line of a log file says of a graph.
use Rattle.std.specs.Prelude.{ℕ, Bool, true, false, ◌&&◌, not, if◌then◌else◌, List, [], ◌∷◌, ◌++◌, Option, Some, None}
use Rattle.std.specs.Option.{option_map_or}
use Rattle.sg_model.specs.Last.{Map}
use Rattle.sg_model.specs.Lists.{has_text, is_in, keys_of, rises_from}
use Rattle.sg_model.specs.Names.{Name}
use Rattle.sg_model.specs.Values.{Value}
use Rattle.sg_parse.specs.Reading.{index_of}

-- the number of a name among names, if it is one of them
abbrev pub numbered : List Name → Name → Option ℕ
numbered names n = if has_text n names then Some (index_of n names) else None

-- variables with what they are given: those that the graph declares, in the order of the line, and whether it declares all
pub record Assignments (A : Type 0) : Type 0 where
  pub pairs : Map A
  pub known : Bool

-- a step of a walk: its label, if the graph has it, and what it writes
pub record StepContent : Type 0 where
  pub label : Option ℕ
  pub writes : Assignments (Option Value)

-- what a line says. A role or a label is none if the graph has none of the name
pub data LogContent : Type 0 where
  SessionLine : Name → LogContent
  LogHeadLine : (role : Option ℕ) → LogContent
  EventLine : (sent : Bool) (label : Option ℕ) (time : ℕ) (values : Assignments Value) → LogContent
  WalkLine : List StepContent → LogContent

-- ---- variables

-- no variables
abbrev pub nothing_assigned : {A : Type 0} → Assignments A
nothing_assigned = record { pairs = []; known = true }

-- one variable, by its name among all
abbrev pub one_assigned : {A : Type 0} → List Name → Name → A → Assignments A
one_assigned names n v = option_map_or (λ x. record { pairs = (x, v) ∷ []; known = true }) (numbered names n) (record { pairs = []; known = false })

-- both, one after the other
abbrev pub both_assigned : {A : Type 0} → Assignments A → Assignments A → Assignments A
both_assigned a b = record { pairs = a.pairs ++ b.pairs; known = b.known && a.known }

-- no number stands twice
abbrev pub differ : List ℕ → Bool
differ [] = true
differ (n ∷ ns) = not (is_in n ns) && differ ns

-- the variables rise
abbrev pub rise : {A : Type 0} → Assignments A → Bool
rise v = rises_from 0 (keys_of v.pairs)

-- all are declared, none is named twice, and they don't rise
abbrev pub falls : {A : Type 0} → Assignments A → Bool
falls v = v.known && differ (keys_of v.pairs) && not (rise v)
