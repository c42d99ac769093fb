-- The run that is generated for a seed, a number of sessions and a graph: the steps that the generator's rules choose.
use Rattle.std.specs.Prelude.{◌≡◌, ℕ, zero, suc, ◌+◌, ◌-◌, ◌*◌, ◌%◌, ◌≤◌, ◌==◌, min, nat_lt, if◌then◌else◌, List, [], ◌∷◌, length, get_or, slice_get, Option, Some, None, pos}
use Rattle.std.specs.Fmt.{decimal}
use Rattle.sg_graph.specs.Edges.{leaving_from}
use Rattle.sg_model.specs.Last.{Map}
use Rattle.sg_model.specs.Shape.{role_at, target, receiver}
use Rattle.sg_model.specs.Values.{Value, IntValue, TextValue}
use Rattle.sg_protocol.specs.Calls.{Received}
use Rattle.sg_protocol.specs.Graph.{Graph, VariableKind, Int, Text, shape, writes, kind_of}
use Rattle.sg_protocol.specs.Keyring.{Program}
use Rattle.sg_protocol.specs.Schedule.{StartStep, ActStep, AbandonStep, DeliverStep, Whole}
use Rattle.sg_report.specs.Reported.{Reported, Happened, Sends}
use Rattle.sg_sessions.specs.Draws.{draw}
use Rattle.sg_drive.specs.Going.{Pending, Going, beginning, taking, drawing, adding, without, reported_last}
use Rattle.sg_sessions.specs.Setup.{player}

-- ---- to play at a node

-- the principal at a node
abbrev pub player_at : Graph → (node : ℕ) → List ℕ
player_at g node = player (role_at (shape g) node)

-- the label that a draw chooses of these, modulo how many there are
abbrev pub chosen : (labels : List ℕ) → (d : ℕ) → ℕ
chosen labels d = get_or labels (d % length labels) 0

-- the value that a draw gives a variable: an int as it is, a text as its decimal digits
abbrev pub value_drawn : VariableKind → (d : ℕ) → Value
value_drawn Int d = IntValue (pos d)
value_drawn Text d = TextValue (decimal d)

-- a value for each of these variables, one draw for each, from number i on
abbrev pub values_drawn : (seed i : ℕ) → Graph → (variables : List ℕ) → Map Value
values_drawn seed i g [] = []
values_drawn seed i g (x ∷ xs) = (x, value_drawn (kind_of g x) (draw seed i)) ∷ values_drawn seed (i + 1) g xs

-- the number of the frame that was sent, if one was
abbrev pub number_sent : Option Reported → Option ℕ
number_sent (Some (Sends e to n)) = Some n
number_sent other = None

-- the frame of this number, if there is one, goes to the list's end with count 0
abbrev pub with_frame : (session label : ℕ) → (frame : Option ℕ) → Going → Going
with_frame session label None x = x
with_frame session label (Some n) x = adding (record { frame = n; session = session; label = label; count = 0 } ∷ []) x

-- and so the one that the last step sent
abbrev pub with_sent : (session label : ℕ) → Going → Going
with_sent session label x = with_frame session label (number_sent (reported_last x)) x

-- along a label: a draw for each written variable, in rising number; an act; and its frame goes to the list's end
abbrev pub play_along : (seed : ℕ) → Graph → (session node label : ℕ) → Going → Going
play_along seed g session node label x =
    with_sent session label (taking (ActStep (player_at g node) session label (values_drawn seed x.draws g (writes g label))) (drawing (length (writes g label)) x))

-- if these labels leave the node, a draw chooses one; if none do, nothing is played
abbrev pub play_by : (seed : ℕ) → Graph → (session node : ℕ) → (labels : List ℕ) → Going → Going
play_by seed g session node [] x = x
play_by seed g session node (e ∷ es) x = play_along seed g session node (chosen (e ∷ es) (draw seed x.draws)) (drawing 1 x)

-- the principal at a node plays, by the labels that leave the node in rising number
abbrev pub play : (seed : ℕ) → Graph → (session node : ℕ) → Going → Going
play seed g session node x = play_by seed g session node (leaving_from g node) x

-- ---- a pending frame

-- a frame of this time was accepted at a node that these labels leave: it is played, or from time 16 on the session is abandoned there
abbrev pub goes_on_by : (seed : ℕ) → Graph → (session node time : ℕ) → (labels : List ℕ) → Going → Going
goes_on_by seed g session node time [] x = x
goes_on_by seed g session node time (e ∷ es) x = if nat_lt time 16 then play seed g session node x else taking (AbandonStep (player_at g node) session) x

-- the time of the frame that was accepted, if a delivery was
abbrev pub accepted_time : Option Reported → Option ℕ
accepted_time (Some (Happened (Received sid r label time values joins))) = Some time
accepted_time other = None

-- if a frame of this time was accepted, its session goes on at the node to which its label leads
abbrev pub goes_on : (seed : ℕ) → Graph → Pending → (time : Option ℕ) → Going → Going
goes_on seed g p None x = x
goes_on seed g p (Some time) x = goes_on_by seed g p.session (target (shape g) p.label) time (leaving_from g (target (shape g) p.label)) x

-- and so by the outcome of the last step
abbrev pub gone_on : (seed : ℕ) → Graph → Pending → Going → Going
gone_on seed g p x = goes_on seed g p (accepted_time (reported_last x)) x

-- a frame is delivered to the principal to whom its label leads, and the session goes on if it was accepted
abbrev pub deliver : (seed : ℕ) → Graph → Pending → Going → Going
deliver seed g p x = gone_on seed g p (taking (DeliverStep (player (receiver (shape g) p.label)) (Whole p.frame)) x)

-- the frame goes to the list's end, and its count rises by 1
abbrev pub put_back : Pending → Going → Going
put_back p x = adding (record p { count = p.count + 1 } ∷ []) x

-- what may become of a frame that is taken out of the list
pub data Fate : Type 0 where
  Delivered : Fate
  Delayed : Fate
  Repeated : Fate
  Lost : Fate

-- by its count, and a draw below 16: with count 3 it is delivered
abbrev pub fate_of : (count e : ℕ) → Fate
fate_of count e =
    if count == 3 then Delivered
    else if nat_lt e 2 then Delayed
    else if nat_lt e 4 then Repeated
    else if e == 15 then Lost
    else Delivered

-- it is delivered; put back; both, and then it stands before the frame that the delivery brings about; or lost
abbrev pub meet : (seed : ℕ) → Graph → Pending → Fate → Going → Going
meet seed g p Delivered x = deliver seed g p x
meet seed g p Delayed x = put_back p x
meet seed g p Repeated x = deliver seed g p (put_back p x)
meet seed g p Lost x = record x { lost = x.lost + 1 }

-- the frame at an index, if there is one, is taken out, and the next draw but one, modulo 16, decides
abbrev pub take_out : (seed : ℕ) → Graph → (index : ℕ) → Option Pending → Going → Going
take_out seed g index None x = x
take_out seed g index (Some p) x = meet seed g p (fate_of p.count (draw seed (x.draws + 1) % 16)) (without index (drawing 2 x))

-- a turn: a draw gives the index, modulo the length of the list. Nothing is drawn if no frame is pending
abbrev pub turn : (seed : ℕ) → Graph → Going → Going
turn seed g x = let index = draw seed x.draws % length x.pending in take_out seed g index (slice_get x.pending index) x

-- n turns
abbrev pub turns : ℕ → (seed : ℕ) → Graph → Going → Going
turns zero seed g x = x
turns (suc n) seed g x = turn seed g (turns n seed g x)

-- ---- groups

-- a session starts, and plays at the start node
abbrev pub begin : (seed : ℕ) → Graph → (session : ℕ) → Going → Going
begin seed g session x = play seed g session 0 (taking (StartStep (player_at g 0) session) x)

-- `count` sessions do, one after another, the first of index `first`
abbrev pub begin_all : (seed : ℕ) → Graph → (first count : ℕ) → Going → Going
begin_all seed g first zero x = x
begin_all seed g first (suc n) x = begin seed g (first + n) (begin_all seed g first n x)

-- a group of `count` sessions: they begin, and after some turns no frame is pending
pub record IsGroup (seed : ℕ) (g : Graph) (first count : ℕ) (x y : Going) : Type 0 where
  pub count_of_turns : ℕ
  pub is : y ≡ turns count_of_turns seed g (begin_all seed g first count x)
  pub over : y.pending ≡ []

-- `groups` groups of sixteen sessions, the last one smaller, one after another
abbrev pub AreGroups : (groups : ℕ) → (seed sessions : ℕ) → Graph → (x y : Going) → Type 0
AreGroups zero seed sessions g x y = y ≡ x
AreGroups (suc n) seed sessions g x z = (y : Going) × AreGroups n seed sessions g x y × IsGroup seed g (16 * n) (min 16 (sessions - 16 * n)) y z

-- the run after the groups of all sessions. A group after the last session has none
pub record Generated (seed sessions : ℕ) (g : Graph) (programs : List Program) (x : Going) : Type 0 where
  pub groups : ℕ
  pub all : sessions ≤ 16 * groups
  pub are : AreGroups groups seed sessions g (beginning sessions g programs) x
