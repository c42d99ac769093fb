-- What is noted of a call: texts that were tagged, texts whose tag was found right, and texts that were hashed.
use Rattle.std.specs.Prelude.{ℕ, List, [], ◌∷◌, ◌==◌, Bool, true, false, nat_lt, if◌then◌else◌, map, Option, Some, None, ◌++◌, Result, Ok, Err, option_map, option_and_then, take_while}
use Rattle.std.specs.Option.{option_map_or}
use Rattle.sg_model.specs.Last.{last}
use Rattle.sg_model.specs.Lists.{first_some}
use Rattle.sg_model.specs.Names.{Name}
use Rattle.sg_model.specs.Values.{Opening}
use Rattle.sg_protocol.specs.Graph.{Graph}
use Rattle.sg_protocol.specs.Frame.{Cast, Item, Frame}
use Rattle.sg_protocol.specs.Reading.{read}
use Rattle.sg_protocol.specs.Texts.{Hash, session_text_of, commitment_text_of}
use Rattle.sg_protocol.specs.Keyring.{Keyring, Program, targets_of}
use Rattle.sg_protocol.specs.Session.{Session, new_session, principal, transcript}
use Rattle.sg_protocol.specs.Sending.{text_to, text_of}
use Rattle.sg_protocol.specs.Checks.{texts_checked}
use Rattle.sg_protocol.specs.Calls.{Refusal, Call, Answer, Act, Malformed, UnknownGraph, BadCast, UnknownPeer, BadSession, Joined, CacheFull, SessionsFull, UnknownSession, NotWaiting, BadFrameTag, NoSuchView, BadTime, BadEvidence, BadOpening, Start, Abandon, Deliver, Sends, NotStarted}
use Rattle.sg_protocol.specs.Node.{Node, program_for, session_with, session_for}
use Rattle.sg_protocol.specs.Verdict.{has_item_tag, has_kind, is_right, rows}
use Rattle.sg_protocol.specs.Acting.{openings_for, answer_act, answer}

-- a text for two principals, the lesser name first
pub record Note : Type 0 where
  pub one : Name
  pub two : Name
  pub text : List ℕ

-- the texts that were tagged, those whose tag was found right, and those that were hashed
pub record Notes : Type 0 where
  pub made : List Note
  pub found : List Note
  pub hashed : List (List ℕ)

-- the bytes of a stand before those of b
abbrev pub text_before : List ℕ → List ℕ → Bool
text_before a [] = false
text_before [] (y ∷ ys) = true
text_before (x ∷ xs) (y ∷ ys) = if x == y then text_before xs ys else nat_lt x y

-- the note of a text for two principals
abbrev pub note_of : Name → Name → List ℕ → Note
note_of a b text = if text_before b a then record { one = b; two = a; text = text } else record { one = a; two = b; text = text }

-- nothing was noted
abbrev pub no_notes : Notes
no_notes = record { made = []; found = []; hashed = [] }

-- ---- a delivery

-- the number of a refusal's row, or 16 for none
abbrev pub row_number : Option Refusal → ℕ
row_number None = 16
row_number (Some (Malformed at)) = 1
row_number (Some UnknownGraph) = 2
row_number (Some BadCast) = 3
row_number (Some (UnknownPeer name)) = 4
row_number (Some BadSession) = 5
row_number (Some Joined) = 6
row_number (Some CacheFull) = 7
row_number (Some SessionsFull) = 8
row_number (Some UnknownSession) = 9
row_number (Some NotWaiting) = 10
row_number (Some BadFrameTag) = 11
row_number (Some NoSuchView) = 12
row_number (Some (BadTime item got least)) = 13
row_number (Some (BadEvidence item)) = 14
row_number (Some (BadOpening variable)) = 15

-- the openings that were hashed: those of the right type, up to the first that is wrong
abbrev pub hashed_openings : Hash → Graph → Session → Frame → List Opening → List Opening
hashed_openings sha g s f [] = []
hashed_openings sha g s f (o ∷ os) =
    if is_right sha g s f o then (o ∷ hashed_openings sha g s f os) else (if has_kind g o then o ∷ [] else [])

-- what is noted of a frame in the session that waits for it, if the verdict was row k
abbrev pub notes_in_session : Hash → Keyring → Program → Session → Frame → ℕ → Notes
notes_in_session sha keys p s f k = record {
  made = [];
  found = (if nat_lt 11 k then note_of keys.me (principal s.cast f.sender) (text_of f) ∷ [] else [])
      ++ (if nat_lt 13 k then map (λ (c : Item × List ℕ). note_of keys.me (principal s.cast (c.0).role) c.1) (take_while (has_item_tag sha keys s) (texts_checked p.graph s f)) else []);
  hashed = if nat_lt 14 k then map (commitment_text_of s.sid) (hashed_openings sha p.graph s f f.openings) else [];
}

-- the session that a frame is for, with its program
abbrev pub session_of_frame : Node → Frame → Option (Program × Session)
session_of_frame n f =
    let s = option_map_or (λ c. Some (new_session f.sid c f.receiver)) f.join (session_for n.live f) in
    option_and_then (λ s. option_map (λ p. (p, s)) (program_for n.programs s.cast.graph s.role)) s

-- the session text, if a joining frame comes to the row of the sid
abbrev pub hashed_of_join : Frame → ℕ → List (List ℕ)
hashed_of_join f k = option_map_or (λ c. if nat_lt 4 k then session_text_of c ∷ [] else []) f.join []

-- what is noted of what was read
abbrev pub notes_of_read : Hash → Node → Result Frame ℕ → Notes
notes_of_read sha n (Err at) = no_notes
notes_of_read sha n (Ok f) =
    let k = row_number (first_some (rows sha n f)) in
    let rest = option_map_or (λ (x : Program × Session). notes_in_session sha n.keys x.0 x.1 f k) (session_of_frame n f) no_notes in
    record rest { hashed = hashed_of_join f k ++ rest.hashed }

-- ---- the other calls

-- what is noted of a step that was sent: the text of each tag, and the commitment texts
abbrev pub notes_of_sent : Keyring → Program → Session → Frame → List Opening → Notes
notes_of_sent keys p s f written = record {
  made = option_map_or (λ i. map (λ t. note_of keys.me (principal s.cast t) (text_to p.graph s (transcript s) i t)) (targets_of p i.label)) (last f.items) []
      ++ note_of keys.me (principal s.cast f.receiver) (text_of f) ∷ [];
  found = [];
  hashed = map (commitment_text_of s.sid) written;
}

-- what is noted of a start: the session text, if the start comes to the test of the joins
abbrev pub notes_of_start : Cast → Answer → Notes
notes_of_start c (NotStarted UnknownGraph) = no_notes
notes_of_start c (NotStarted BadCast) = no_notes
notes_of_start c (NotStarted (UnknownPeer name)) = no_notes
notes_of_start c other = record { made = []; found = []; hashed = session_text_of c ∷ [] }

-- what is noted of an act
abbrev pub notes_of_act : Node → List ℕ → List Opening → Answer → Notes
notes_of_act n sid written (Sends e to f) = option_map_or (λ s. option_map_or (λ p. notes_of_sent n.keys p s f written)
    (program_for n.programs s.cast.graph s.role) no_notes) (session_with n.live sid) no_notes
notes_of_act n sid written other = no_notes

-- what is noted of a call
abbrev pub notes : Hash → Node → Call → Notes
notes sha n (Start c) = notes_of_start c (answer sha n (Start c))
notes sha n (Act sid label values confounders) = notes_of_act n sid (openings_for values confounders) (answer_act sha n sid label values confounders)
notes sha n (Abandon sid) = no_notes
notes sha n (Deliver bytes) = notes_of_read sha n (read bytes)
