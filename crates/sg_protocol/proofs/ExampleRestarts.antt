-- A principal that joins a session, crashes, and is given the joining frame again.
use Rattle.std.specs.Prelude.{◌≡◌, ℕ, true, List, [], ◌∷◌, map, filter, not, codes, refl, get_or}
use Rattle.sg_model.specs.Names.{Name}
use Rattle.sg_protocol.specs.Calls.{Event, Started, Sent, Received, Answer, Deliver, Happened, Sends, NotActed, NotDelivered, Joined, Abandoned}
use Rattle.sg_protocol.specs.Calls as Calls'
use Rattle.sg_protocol.specs.Keyring.{Program}
use Rattle.sg_protocol.specs.Acting.{answer}
use Rattle.sg_protocol.specs.Past.{new_node}
use Rattle.sg_protocol.specs.Schedule.{Schedule, StartStep, ActStep, AbandonStep, DeliverStep, Whole, sid_at}
use Rattle.sg_protocol.specs.World.{World, Outcome, Answered, frames, keyring_of}
use Rattle.sg_protocol.specs.Run.{run, events_of}
use Rattle.sg_protocol.specs.Premises.{hashed}
use Rattle.sg_protocol.specs.Walk.{OnePath}
use Rattle.sg_protocol.specs.Restarts.{StepOrRestart, Stepped, Restarted, run_with_restarts, without_restarts, is_abandonment}
use Rattle.sg_protocol.proofs.Examples.{pair, programs, pair_schedule, toy, forged, colliding}
use Rattle.std.proofs.Common.{lit<}

abbrev a : Name
a = codes "a"

abbrev b : Name
b = codes "b"

-- both are honest
abbrev setting : Schedule
setting = pair_schedule toy (a ∷ b ∷ []) []

abbrev its_programs : List Program
its_programs = programs toy pair 6

-- a's request comes to b, who joins and crashes; then the request comes again, and b is asked to reply
abbrev played : List StepOrRestart
played = Stepped (StartStep a 0) ∷ Stepped (ActStep a 0 0 []) ∷ Stepped (DeliverStep b (Whole 1)) ∷ Restarted b ∷ Stepped (DeliverStep b (Whole 1)) ∷ Stepped (ActStep b 0 1 []) ∷ []

abbrev world : World
world = run_with_restarts toy its_programs setting played

abbrev sid : List ℕ
sid = sid_at toy setting 0

-- a word for the outcome of a step
abbrev word : Outcome → List ℕ
word (Answered (Happened e)) = codes "done"
word (Answered (Sends e to f)) = codes "sent"
word (Answered Abandoned) = codes "left"
word (Answered (NotDelivered Joined)) = codes "joined"
word (Answered (NotActed Calls'.ActFault.UnknownSession)) = codes "unknown session"
word other = codes "other"

-- the frame that joined is refused as joined, and the session is gone
refused : map (λ l. word l.outcome) world.log ≡ codes "done" ∷ codes "sent" ∷ codes "done" ∷ codes "joined" ∷ codes "unknown session" ∷ []
refused = refl

-- a node that kept no joins would join again
forgets : word (Answered (answer toy (new_node (keyring_of setting.keys b) its_programs []) (Deliver (get_or (frames world) 0 [])))) ≡ codes "done"
forgets = refl

-- the restart takes one number, since one session was live
numbers : map (λ l. l.number) world.log ≡ 1 ∷ 2 ∷ 3 ∷ 5 ∷ 6 ∷ []
numbers = refl

-- the schedule without restarts declares the dropped session once more, and abandons it there
plain : (without_restarts toy its_programs setting played).steps ≡ StartStep a 0 ∷ ActStep a 0 0 [] ∷ DeliverStep b (Whole 1) ∷ AbandonStep b 2 ∷ DeliverStep b (Whole 1) ∷ ActStep b 0 1 [] ∷ []
plain = refl

abbrev plain_world : World
plain_world = run toy its_programs (without_restarts toy its_programs setting played)

left : map (λ l. word l.outcome) plain_world.log ≡ codes "done" ∷ codes "sent" ∷ codes "done" ∷ codes "left" ∷ codes "joined" ∷ codes "unknown session" ∷ []
left = refl

same_answers : map word (map (λ l. l.outcome) (filter (λ l. not (is_abandonment l.call)) plain_world.log)) ≡ map word (map (λ l. l.outcome) world.log)
same_answers = refl

-- the assumptions hold, and the events follow one walk
premises : (forged setting world ≡ []) × (colliding toy (hashed setting world) ≡ [])
premises = (refl, refl)

events : events_of sid world.log ≡ Started sid 0 ∷ Sent sid 0 0 1 [] ∷ Received sid 1 0 1 [] true ∷ []
events = refl

path : OnePath pair (λ r. true) (events_of sid world.log) (record { label = 0; writes = [] } ∷ [])
path = record {
  taken = true;
  walk = record { walk = (lit< tt, refl, tt); values = ((refl, refl), tt) };
  ends_honest = refl;
  explained = refl;
  may_come = λ e. cc;
  hidden = refl;
}
