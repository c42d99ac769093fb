-- The verdict on a delivery: the first row whose condition holds, or the event.
use Rattle.std.specs.Prelude.{ℕ, List, [], ◌∷◌, length, ◌==◌, Bool, true, false, ◌&&◌, nat_lt, if◌then◌else◌, map, filter, Option, Some, None, bytes_eq, ◌+◌, nat_le, not, Result, Ok, Err, option_map, unwrap_or, find, position}
use Rattle.std.specs.List.{list_all}
use Rattle.std.specs.Option.{option_map_or}
use Rattle.sg_model.specs.Last.{last, has}
use Rattle.sg_model.specs.Lists.{keys_of, same_text, first_some, value_at}
use Rattle.sg_model.specs.Shape.{sender}
use Rattle.sg_model.specs.Values.{Opening}
use Rattle.sg_model.specs.Limits.{most_joins, most_live}
use Rattle.sg_protocol.specs.Graph.{VariableKind, Graph, shape, reads, kind_of, Int, Text}
use Rattle.sg_protocol.specs.Evidence.{Seen, has_view}
use Rattle.sg_protocol.specs.Frame.{Cast, Item, Frame, kind_of_value}
use Rattle.sg_protocol.specs.Reading.{read}
use Rattle.sg_protocol.specs.Texts.{Hash, session_id, commitment}
use Rattle.sg_protocol.specs.Keyring.{Keyring, Program, targets_of}
use Rattle.sg_protocol.specs.Session.{Session, new_session, last_label, last_time, origin, own_time, at_turn}
use Rattle.sg_protocol.specs.Sending.{tag_for, text_of}
use Rattle.sg_protocol.specs.Checks.{texts_checked, shown_commitments}
use Rattle.sg_protocol.specs.Calls.{Event, Refusal, Answer, Received, Malformed, UnknownGraph, BadCast, UnknownPeer, BadSession, Joined, CacheFull, SessionsFull, UnknownSession, NotWaiting, BadFrameTag, NoSuchView, BadTime, BadEvidence, BadOpening, Happened, NotDelivered}
use Rattle.sg_protocol.specs.Node.{Node, program_for, has_joined, session_for, stranger, is_cast}

-- a row of the table
abbrev pub row : {A : Type 0} → Bool → A → Option A
row condition refusal = if condition then Some refusal else None

-- ---- the form of a frame

-- what is seen of an item
abbrev pub seen : Item → Seen
seen i = record { label = i.label; delta = keys_of i.delta }

-- each item has tags for exactly its targets without a later item
abbrev pub has_right_tags : Program → List Item → Bool
has_right_tags p [] = true
has_right_tags p (i ∷ is) = bytes_eq (keys_of i.tags) (filter (λ t. not (has (λ j. j.role) t is)) (targets_of p i.label)) && has_right_tags p is

-- the frame has the form of a view from the session's own last label
abbrev pub is_shown : Program → Session → Frame → Bool
is_shown p s f =
    has_view p.views (record { origin = origin s; items = map seen f.items })
    && list_all (λ i. i.role == sender (shape p.graph) i.label) f.items
    && option_map_or (λ i. i.role == f.sender) (last f.items) false
    && has_right_tags p f.items
    && bytes_eq (map (λ o. o.variable) f.openings) (option_map_or (reads p.graph) (last_label f.items) [])

-- ---- tags, times and openings

-- the sender is a role of the cast, and the frame's tag is what its text gives under the key that I share with the sender
abbrev pub has_frame_tag : Hash → Keyring → Session → Frame → Bool
has_frame_tag sha keys s f = nat_lt f.sender (length s.cast.names) && bytes_eq (tag_for sha keys s.cast f.sender (text_of f)) f.tag

-- the first item, from number n on, whose time is not above that of the one before it
abbrev pub bad_time : ℕ → ℕ → List Item → Option Refusal
bad_time n before [] = None
bad_time n before (i ∷ is) = if nat_le i.time before then Some (BadTime n i.time (before + 1)) else bad_time (n + 1) i.time is

-- the item has a tag for me, and it is what the text gives under the key that I share with the item's role
abbrev pub has_item_tag : Hash → Keyring → Session → Item × List ℕ → Bool
has_item_tag sha keys s c = same_text (value_at (c.0).tags s.role) (tag_for sha keys s.cast (c.0).role c.1)

-- both types are the same
abbrev pub same_kind : VariableKind → VariableKind → Bool
same_kind Int Int = true
same_kind Int Text = false
same_kind Text Int = false
same_kind Text Text = true

-- an opening is of its variable's type
abbrev pub has_kind : Graph → Opening → Bool
has_kind g o = same_kind (kind_of g o.variable) (kind_of_value o.value)

-- an opening is of its variable's type and opens the commitment
abbrev pub is_right : Hash → Graph → Session → Frame → Opening → Bool
is_right sha g s f o = has_kind g o && same_text (shown_commitments s f o.variable) (commitment sha s.sid o)

-- ---- the rows

-- what is looked at in a session that waits for the frame
abbrev pub rows_of_session : Hash → Keyring → Program → Session → Frame → List (Option Refusal)
rows_of_session sha keys p s f =
    row (not (has_frame_tag sha keys s f)) BadFrameTag
    ∷ row (not (is_shown p s f)) NoSuchView
    ∷ bad_time 1 (own_time s) f.items
    ∷ option_map (λ n. BadEvidence (n + 1)) (position (λ c. not (has_item_tag sha keys s c)) (texts_checked p.graph s f))
    ∷ option_map (λ o. BadOpening o.variable) (find (λ o. not (is_right sha p.graph s f o)) f.openings)
    ∷ []

-- what is looked at in a frame that joins, under a program
abbrev pub rows_of_join : Hash → Node → Frame → Cast → Program → List (Option Refusal)
rows_of_join sha n f c p =
    row (not (is_cast n.keys p.graph c f.receiver && nat_lt f.sender (length c.names))) BadCast
    ∷ option_map UnknownPeer (stranger n.keys c)
    ∷ row (not (bytes_eq f.sid (session_id sha c))) BadSession
    ∷ row (has_joined n.joins f.sid f.receiver) Joined
    ∷ row (nat_le most_joins (length n.joins)) CacheFull
    ∷ row (nat_le most_live (length n.live)) SessionsFull
    ∷ rows_of_session sha n.keys p (new_session f.sid c f.receiver) f

-- what is looked at in a frame that continues a session, under a program
abbrev pub rows_of_next : Hash → Node → Frame → Session → Program → List (Option Refusal)
rows_of_next sha n f s p = row (at_turn p.graph s) NotWaiting ∷ rows_of_session sha n.keys p s f

-- the rows for a frame that joins
abbrev pub join_rows : Hash → Node → Frame → Cast → List (Option Refusal)
join_rows sha n f c = option_map_or (rows_of_join sha n f c) (program_for n.programs c.graph f.receiver) (Some UnknownGraph ∷ [])

-- the rows for a frame that continues
abbrev pub next_rows : Hash → Node → Frame → List (Option Refusal)
next_rows sha n f = option_map_or (λ s. option_map_or (rows_of_next sha n f s) (program_for n.programs s.cast.graph s.role) (Some UnknownSession ∷ []))
    (session_for n.live f) (Some UnknownSession ∷ [])

-- all rows for a frame
abbrev pub rows : Hash → Node → Frame → List (Option Refusal)
rows sha n f = option_map_or (join_rows sha n f) f.join (next_rows sha n f)

-- ---- the verdict

-- the receipt of a frame, whose last item says what was done
abbrev pub receipt : Frame → Event
receipt f = Received f.sid f.receiver (unwrap_or (last_label f.items) 0) (last_time f.items) (map (λ o. (o.variable, o.value)) f.openings)
    (option_map_or (λ c. true) f.join false)

-- the event, if no row holds
abbrev pub decided : Event → Option Refusal → Answer
decided e None = Happened e
decided e (Some r) = NotDelivered r

-- the verdict on what was read
abbrev pub verdict_on : Hash → Node → Result Frame ℕ → Answer
verdict_on sha n (Err at) = NotDelivered (Malformed at)
verdict_on sha n (Ok f) = decided (receipt f) (first_some (rows sha n f))

-- the verdict on delivered bytes
abbrev pub verdict : Hash → Node → List ℕ → Answer
verdict sha n bytes = verdict_on sha n (read bytes)
