-- The walk of a session's events, each beside a walk that shows what it took.
use Rattle.std.specs.Prelude.{ℕ, Bool, List, [], ◌∷◌}
use Rattle.sg_protocol.specs.Calls.{Event}
use Rattle.sg_protocol.specs.Graph.{Graph}
use Rattle.sg_protocol.specs.Explaining.{walk_after_event}
use Rattle.sg_protocol.specs.Walk.{StoredStep}
use Rattle.sg_walk.specs.Model.{event_of}
use Rattle.sg_certify.specs.declared.shown.ShownEvent.{ShownEvent}

-- the event, and the walk beside it
abbrev pub pair_of : ShownEvent → Event × List ℕ
pair_of s = (event_of s.event.now, s.walk.now)

-- the walk after these events
abbrev pub explaining_walk : Graph → (ℕ → Bool) → List StoredStep → List (Event × List ℕ) → List StoredStep
explaining_walk g honest steps [] = steps
explaining_walk g honest steps (p ∷ ps) = explaining_walk g honest (walk_after_event g honest steps p.0 p.1) ps
