-- The run of a schedule, and what it says of each session.
use Rattle.std.specs.Prelude.{ℕ, List, [], ◌∷◌, if◌then◌else◌, map, filter, Option, Some, None, bytes_eq, ◌+◌, ◌++◌, flat_map, option_map, option_and_then, find}
use Rattle.std.specs.List.{list_any}
use Rattle.std.specs.Option.{option_map_or}
use Rattle.std.specs.Result.{result_ok}
use Rattle.sg_model.specs.Names.{Name}
use Rattle.sg_protocol.specs.Frame.{Cast}
use Rattle.sg_protocol.specs.Spelling.{spelling}
use Rattle.sg_protocol.specs.Reading.{read}
use Rattle.sg_protocol.specs.Texts.{Hash}
use Rattle.sg_protocol.specs.Keyring.{Program}
use Rattle.sg_protocol.specs.Calls.{Event, sid_of, Call, Answer, events_of_answer, Start, Deliver, Sends}
use Rattle.sg_protocol.specs.Acting.{answer}
use Rattle.sg_protocol.specs.Notes.{no_notes, notes}
use Rattle.sg_protocol.specs.Past.{Past, node_of, past_after}
use Rattle.sg_protocol.specs.Schedule.{Step, Schedule, who_of, CraftStep}
use Rattle.sg_protocol.specs.World.{Outcome, Logged, World, past_of, new_world, call_of, Answered, Crafted, NoFrame}
use Rattle.sg_protocol.specs.Crafted.{crafted}

-- the frame that an answer sends
abbrev pub frame_in : Answer → Option (List ℕ)
frame_in (Sends e to f) = Some (spelling f)
frame_in other = None

-- the principal's past with the call
abbrev pub recorded : Hash → World → Name → Call → List Past
recorded sha w who call = map (λ p. if bytes_eq p.keys.me who then past_after sha p call else p) w.pasts

-- step k is a call at a principal's node
abbrev pub called : Hash → World → ℕ → Name → Call → Past → World
called sha w k who call past =
    let a = answer sha (node_of past) call in
    record {
      pasts = recorded sha w who call;
      log = w.log ++ record { number = k; who = Some who; call = Some call; outcome = Answered a; frame = frame_in a; notes = notes sha (node_of past) call } ∷ [];
    }

-- step k made no call
abbrev pub uncalled : World → ℕ → Option Name → Outcome → Option (List ℕ) → World
uncalled w k who outcome frame = record w { log = w.log ++ record { number = k; who = who; call = None; outcome = outcome; frame = frame; notes = no_notes } ∷ [] }

-- step k is a principal's, with the call that it makes, if it makes one
abbrev pub called_if : Hash → World → ℕ → Name → Option Call → Past → World
called_if sha w k who None past = uncalled w k (Some who) NoFrame None
called_if sha w k who (Some call) past = called sha w k who call past

-- the world after step k. A step of a principal who is not honest changes nothing
abbrev pub world_after : Hash → Schedule → World → ℕ → Step → World
world_after sha s w k (CraftStep c) = uncalled w k None Crafted (option_map spelling (crafted sha s w c))
world_after sha s w k step = option_map_or (λ who. option_map_or (called_if sha w k who (call_of sha s w k step)) (past_of w who) w) (who_of step) w

-- the world after these steps, the first of number k
abbrev pub world_after_all : Hash → Schedule → World → ℕ → List Step → World
world_after_all sha s w k [] = w
world_after_all sha s w k (x ∷ xs) = world_after_all sha s (world_after sha s w k x) (k + 1) xs

-- the run of a schedule
abbrev pub run : Hash → List Program → Schedule → World
run sha programs s = world_after_all sha s (new_world programs s) 1 s.steps

-- ---- the events of a session

-- the event of a step, if it has one
abbrev pub events_of_outcome : Outcome → List Event
events_of_outcome (Answered a) = events_of_answer a
events_of_outcome other = []

-- the events of a session in order
abbrev pub events_of : List ℕ → List Logged → List Event
events_of sid log = filter (λ e. bytes_eq (sid_of e) sid) (flat_map (λ l. events_of_outcome l.outcome) log)

-- the cast that a call starts or joins
abbrev pub cast_in : Call → Option Cast
cast_in (Start c) = Some c
cast_in (Deliver bs) = option_and_then (λ f. f.join) (result_ok (read bs))
cast_in other = None

-- the cast of a session's first event
abbrev pub cast_of_session : List ℕ → List Logged → Option Cast
cast_of_session sid log =
    option_and_then (λ l. option_and_then cast_in l.call) (find (λ l. list_any (λ e. bytes_eq (sid_of e) sid) (events_of_outcome l.outcome)) log)
