-- The same walk, given from its end: what each event adds, and which values later receipts give it.
use Rattle.std.specs.Prelude.{ℕ, Bool, if◌then◌else◌, List, [], ◌∷◌, ◌++◌, map, get_or, Option, None, option_map}
use Rattle.std.specs.Option.{option_or}
use Rattle.sg_base.specs.Model.{value_of}
use Rattle.sg_law.specs.Explaining.{after_honest}
use Rattle.sg_model.specs.Last.{after_last}
use Rattle.sg_model.specs.Lists.{value_at}
use Rattle.sg_model.specs.Shape.{sender}
use Rattle.sg_model.specs.Values.{Value}
use Rattle.sg_protocol.specs.Calls.{Event, Started, Sent, Received}
use Rattle.sg_protocol.specs.Graph.{Graph, shape, writes}
use Rattle.sg_protocol.specs.Explaining.{hidden_steps, is_written}
use Rattle.sg_protocol.specs.Walk.{StoredStep, shown}
use Rattle.sg_certify.specs.declared.kept_values.KeptValues.{KeptValues}

-- the value that is kept for a variable
abbrev pub value_in : KeptValues → ℕ → Option Value
value_in k x = option_map (λ v. value_of v.now) (get_or k.values x None)

-- what is hidden at the last write of its variable is filled in with what is found for it
abbrev pub filled_by : (ℕ → Option Value) → List StoredStep → List StoredStep
filled_by found [] = []
filled_by found (s ∷ ss) = record { label = s.label; writes = map (λ (w : ℕ × Option Value). (w.0, if is_written w.0 ss then w.1 else option_or w.1 (found w.0))) s.writes } ∷ filled_by found ss

-- a step along this label, with what is found for each variable that its edge writes
abbrev pub found_step : Graph → (ℕ → Option Value) → ℕ → StoredStep
found_step g found e = record { label = e; writes = map (λ x. (x, found x)) (writes g e) }

-- the steps that an event adds, its own with its values, those of others hidden
abbrev pub added : Graph → (ℕ → Bool) → Event → List ℕ → List StoredStep
added g honest (Started sid r) walk = []
added g honest (Sent sid r label time values) walk = record { label = label; writes = shown values } ∷ []
added g honest (Received sid r label time values joins) walk = hidden_steps g (after_honest (shape g) honest (after_last (sender (shape g)) r walk))

-- the value that an event gives a variable: what was received, before what later events give
abbrev pub given : Event → (ℕ → Option Value) → ℕ → Option Value
given (Started sid r) later x = later x
given (Sent sid r label time values) later x = later x
given (Received sid r label time values joins) later x = option_or (value_at values x) (later x)

-- what is found, except for the variables that the steps write
abbrev pub unless_written : List StoredStep → (ℕ → Option Value) → ℕ → Option Value
unless_written steps found x = if is_written x steps then None else found x

-- what these events give a variable that was written last before them
abbrev pub given_by : Graph → (ℕ → Bool) → List (Event × List ℕ) → ℕ → Option Value
given_by g honest [] = λ x. None
given_by g honest (p ∷ ps) = unless_written (added g honest p.0 p.1) (given p.0 (given_by g honest ps))

-- the steps that these events add, filled in
abbrev pub added_by : Graph → (ℕ → Bool) → List (Event × List ℕ) → List StoredStep
added_by g honest [] = []
added_by g honest (p ∷ ps) = filled_by (given p.0 (given_by g honest ps)) (added g honest p.0 p.1) ++ added_by g honest ps
