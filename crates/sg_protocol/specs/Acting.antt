-- What a start and an act answer, and the answer to every call.
use Rattle.std.specs.Prelude.{ℕ, List, [], ◌∷◌, length, ◌==◌, Bool, false, ◌&&◌, nat_lt, map, Option, Some, None, ◌+◌, nat_le, not, option_map, ◌||◌, find, zip}
use Rattle.std.specs.List.{list_any}
use Rattle.std.specs.Option.{option_map_or}
use Rattle.sg_model.specs.Last.{Map}
use Rattle.sg_model.specs.Lists.{is_in, below, keys_of, first_some}
use Rattle.sg_model.specs.Shape.{receiver, source}
use Rattle.sg_model.specs.Values.{Value, Opening}
use Rattle.sg_model.specs.Limits.{most_joins, most_live, most_time}
use Rattle.sg_protocol.specs.Graph.{Graph, shape, writes}
use Rattle.sg_protocol.specs.Frame.{Cast}
use Rattle.sg_protocol.specs.Texts.{Hash, session_id}
use Rattle.sg_protocol.specs.Keyring.{Keyring, Program}
use Rattle.sg_protocol.specs.Session.{Session, principal, time, place, at_turn}
use Rattle.sg_protocol.specs.Sending.{frame_sent}
use Rattle.sg_protocol.specs.Calls.{StartFault, ActFault, Call, Answer, Act, Started, Sent, UnknownGraph, BadCast, UnknownPeer, Joined, CacheFull, SessionsFull, UnknownSession, NotYourTurn, NoSuchLabel, BadValues, TimeSpent, Start, Abandon, Deliver, Happened, Sends, Abandoned, NotStarted, NotActed, NotAbandoned, SendFault, Send}
use Rattle.sg_protocol.specs.Node.{Node, program_for, starter, has_joined, session_with, stranger, is_cast}
use Rattle.sg_protocol.specs.Verdict.{row, has_kind, verdict}

-- ---- a start

-- the start, if no row holds
abbrev pub started : List ℕ → ℕ → Option StartFault → Answer
started sid r None = Happened (Started sid r)
started sid r (Some fault) = NotStarted fault

-- what is looked at in a start
abbrev pub rows_of_start : Node → Program → List ℕ → Cast → List (Option StartFault)
rows_of_start n p sid c =
    row (not (is_cast n.keys p.graph c p.role)) BadCast
    ∷ option_map UnknownPeer (stranger n.keys c)
    ∷ row (has_joined n.joins sid p.role) Joined
    ∷ row (nat_le most_joins (length n.joins)) CacheFull
    ∷ row (nat_le most_live (length n.live)) SessionsFull
    ∷ []

-- the answer to a start
abbrev pub answer_start : Hash → Node → Cast → Answer
answer_start sha n c = option_map_or (λ p. started (session_id sha c) p.role (first_some (rows_of_start n p (session_id sha c) c)))
    (starter n.programs c.graph) (NotStarted UnknownGraph)

-- ---- an act

-- a value given for x is of its type
abbrev pub is_typed : Graph → ℕ × Value → Bool
is_typed g w = has_kind g (record { variable = w.0; confounder = []; value = w.1 })

-- x stands after a variable that is not less
abbrev pub is_out_of_order : ℕ → List ℕ → Bool
is_out_of_order x [] = false
is_out_of_order x (y ∷ ys) = (nat_le x y && is_in x ys) || is_out_of_order x ys

-- x is missing, not to be written, repeated, out of order or of the wrong type
abbrev pub is_bad : Graph → ℕ → Map Value → ℕ → Bool
is_bad g label values x =
    not (is_in x (writes g label) && is_in x (keys_of values) || not (is_in x (writes g label)) && not (is_in x (keys_of values)))
    || is_out_of_order x (keys_of values)
    || list_any (λ (w : ℕ × Value). (w.0 == x) && not (is_typed g w)) values

-- the openings of what is written
abbrev pub openings_for : Map Value → List (List ℕ) → List Opening
openings_for values confounders = map (λ (w : (ℕ × Value) × List ℕ). record { variable = (w.0).0; confounder = w.1; value = (w.0).1 }) (zip values confounders)

-- the label leaves the session's place
abbrev pub leaves : Graph → Session → ℕ → Bool
leaves g s label = nat_lt label (length g.edges) && (source (shape g) label == place g s)

-- what an act sends
abbrev pub sent : Hash → Keyring → Program → Session → ℕ → Map Value → List (List ℕ) → Answer
sent sha keys p s label values confounders =
    Sends (Sent s.sid s.role label (time s + 1) values) (principal s.cast (receiver (shape p.graph) label))
    (frame_sent sha keys p s label (openings_for values confounders))

-- the sending, if no row holds
abbrev pub acted : Answer → Option ActFault → Answer
acted sends None = sends
acted sends (Some fault) = NotActed fault

-- why the session does not send a step along the label
abbrev pub rows_of_send : Program → Session → ℕ → Map Value → List (Option SendFault)
rows_of_send p s label values =
    row (not (leaves p.graph s label)) NoSuchLabel
    ∷ option_map BadValues (find (is_bad p.graph label values) (below 256))
    ∷ row (nat_le most_time (time s)) TimeSpent
    ∷ []

-- what is looked at in an act
abbrev pub rows_of_act : Program → Session → ℕ → Map Value → List (Option ActFault)
rows_of_act p s label values = row (not (at_turn p.graph s)) NotYourTurn ∷ map (option_map Send) (rows_of_send p s label values)

-- the answer to an act
abbrev pub answer_act : Hash → Node → List ℕ → ℕ → Map Value → List (List ℕ) → Answer
answer_act sha n sid label values confounders = option_map_or (λ s. option_map_or (λ p.
    acted (sent sha n.keys p s label values confounders) (first_some (rows_of_act p s label values)))
    (program_for n.programs s.cast.graph s.role) (NotActed UnknownSession))
    (session_with n.live sid) (NotActed UnknownSession)

-- ---- any call

-- the answer to a call
abbrev pub answer : Hash → Node → Call → Answer
answer sha n (Start c) = answer_start sha n c
answer sha n (Act sid label values confounders) = answer_act sha n sid label values confounders
answer sha n (Abandon sid) = option_map_or (λ s. Abandoned) (session_with n.live sid) NotAbandoned
answer sha n (Deliver bytes) = verdict sha n bytes
