-- The steps of a session of a run, and its events beside walks.
use Rattle.std.specs.Prelude.{ℕ, Bool, List, [], ◌∷◌, map, filter, bytes_eq, flat_map}
use Rattle.std.specs.List.{list_any}
use Rattle.sg_protocol.specs.Calls.{Event, sid_of}
use Rattle.sg_protocol.specs.Run.{events_of, events_of_outcome}
use Rattle.sg_protocol.specs.World.{Logged}

-- the step has an event of the session
abbrev pub is_of_session : List ℕ → Logged → Bool
is_of_session sid l = list_any (λ e. bytes_eq (sid_of e) sid) (events_of_outcome l.outcome)

-- the steps that have one
abbrev pub steps_of_session : List ℕ → List Logged → List Logged
steps_of_session sid log = filter (is_of_session sid) log

-- the events of these steps in the session, each beside its step's walk
abbrev pub events_beside : List ℕ → List (Logged × List ℕ) → List (Event × List ℕ)
events_beside sid part = flat_map (λ (l : Logged × List ℕ). map (λ e. (e, l.1)) (events_of sid (l.0 ∷ []))) part
