-- What a role that waits looks at in a frame, by what it keeps alone.
use Rattle.std.specs.Prelude.{◌≡◌, ℕ, ◌+◌, ◌==◌, ◌&&◌, Bool, false, not, nat_lt, if◌then◌else◌, List, [], ◌∷◌, ◌++◌, map, length, take, slice_set, get_or, Option, Some, None, option_map, bytes_eq, find, position, take_while}
use Rattle.std.specs.List.{list_all}
use Rattle.std.specs.Option.{option_map_or}
use Rattle.sg_model.specs.Last.{Map, last}
use Rattle.sg_model.specs.Lists.{keys_of, same_text}
use Rattle.sg_model.specs.Shape.{sender}
use Rattle.sg_model.specs.Values.{Opening}
use Rattle.sg_protocol.specs.Calls.{Refusal, BadFrameTag, NoSuchView, BadEvidence, BadOpening}
use Rattle.sg_protocol.specs.Evidence.{has_view}
use Rattle.sg_protocol.specs.Frame.{Item, Frame}
use Rattle.sg_protocol.specs.Graph.{Graph, AreNumbers, shape, reads}
use Rattle.sg_protocol.specs.Keyring.{Keyring, Program}
use Rattle.sg_protocol.specs.Notes.{Note, Notes, note_of}
use Rattle.sg_protocol.specs.Sending.{text_of}
use Rattle.sg_protocol.specs.Session.{Session, new_session, principal, last_label}
use Rattle.sg_protocol.specs.Representation.{Held}
use Rattle.sg_protocol.specs.Texts.{real, commitment, commitment_text_of, item_text_of}
use Rattle.sg_protocol.specs.Verdict.{row, seen, has_right_tags, has_frame_tag, bad_time, has_item_tag, has_kind}

-- a new session of the same sid, cast and role
abbrev pub bare : Held → Session
bare h = new_session h.sid h.cast h.role

-- an item's delta is of variables below 32, which rise
abbrev pub HasRisingVars : Item → Type 0
HasRisingVars i = AreNumbers 32 (keys_of i.delta)

-- ---- commitments

-- commitments overwritten by a delta
abbrev pub overwritten : List (Option (List ℕ)) → Map (List ℕ) → List (Option (List ℕ))
overwritten cs [] = cs
overwritten cs (d ∷ ds) = overwritten (slice_set cs d.0 (Some d.1)) ds

-- commitments overwritten by the deltas of items
abbrev pub overwritten_by : List (Option (List ℕ)) → List Item → List (Option (List ℕ))
overwritten_by cs [] = cs
overwritten_by cs (i ∷ is) = overwritten_by (overwritten cs i.delta) is

-- ---- what is looked at

-- the form of a view from this origin
abbrev pub is_seen : Program → Option ℕ → Frame → Bool
is_seen p origin f =
    has_view p.views (record { origin = origin; items = map seen f.items })
    && list_all (λ i. i.role == sender (shape p.graph) i.label) f.items
    && option_map_or (λ i. i.role == f.sender) (last f.items) false
    && has_right_tags p f.items
    && bytes_eq (map (λ o. o.variable) f.openings) (option_map_or (reads p.graph) (last_label f.items) [])

-- what an item says to the role, with these commitments
abbrev pub text_for : Held → List (Option (List ℕ)) → Item → List ℕ
text_for h cs i = item_text_of h.cast.version h.sid i.role h.role i.label i.time cs

-- for each item but the last: the item, and the text that its tag for the role is of, from these commitments on
abbrev pub texts_from : Held → List (Option (List ℕ)) → List Item → List (Item × List ℕ)
texts_from h cs [] = []
texts_from h cs (i ∷ []) = []
texts_from h cs (i ∷ j ∷ is) = (i, text_for h (overwritten cs i.delta) i) ∷ texts_from h (overwritten cs i.delta) (j ∷ is)

-- an opening is of its variable's type and opens the commitment
abbrev pub opens : Graph → List ℕ → List (Option (List ℕ)) → Opening → Bool
opens g sid cs o = has_kind g o && same_text (get_or cs o.variable None) (commitment real sid o)

-- the openings that are hashed: those of the right type, up to the first that is wrong
abbrev pub hashed_from : Graph → List ℕ → List (Option (List ℕ)) → List Opening → List Opening
hashed_from g sid cs [] = []
hashed_from g sid cs (o ∷ os) = if opens g sid cs o then (o ∷ hashed_from g sid cs os) else (if has_kind g o then o ∷ [] else [])

-- ---- the rows

-- an item before the last has no right tag for the role
abbrev pub evidence_row : Keyring → Held → List Item → Option Refusal
evidence_row keys h items = option_map (λ n. BadEvidence (n + 1)) (position (λ c. not (has_item_tag real keys (bare h) c)) (texts_from h h.kept.commitments items))

-- an opening is wrong
abbrev pub opening_row : Graph → List ℕ → List (Option (List ℕ)) → List Opening → Option Refusal
opening_row g sid cs os = option_map (λ o. BadOpening o.variable) (find (λ o. not (opens g sid cs o)) os)

-- what is looked at in a frame, in order
abbrev pub rows_from : Keyring → Program → Held → Frame → List (Option Refusal)
rows_from keys p h f =
    row (not (has_frame_tag real keys (bare h) f)) BadFrameTag
    ∷ row (not (is_seen p h.kept.origin f)) NoSuchView
    ∷ bad_time 1 h.kept.own_time f.items
    ∷ evidence_row keys h f.items
    ∷ opening_row p.graph h.sid (overwritten_by h.kept.commitments f.items) f.openings
    ∷ []

-- ---- notes

-- the texts of items whose tag for the role is found right
abbrev pub found_items : Keyring → Held → List Item → List Note
found_items keys h items = map (λ (c : Item × List ℕ). note_of keys.me (principal h.cast (c.0).role) c.1) (take_while (has_item_tag real keys (bare h)) (texts_from h h.kept.commitments items))

-- what is noted if the verdict is row k
abbrev pub notes_from : Keyring → Program → Held → Frame → ℕ → Notes
notes_from keys p h f k = record {
  made = [];
  found = (if nat_lt 11 k then note_of keys.me (principal h.cast f.sender) (text_of f) ∷ [] else []) ++ (if nat_lt 13 k then found_items keys h f.items else []);
  hashed = if nat_lt 14 k then map (commitment_text_of h.sid) (hashed_from p.graph h.sid (overwritten_by h.kept.commitments f.items) f.openings) else [];
}

-- the earlier notes are still there
abbrev pub KeepsNotes : Notes → Notes → Type 0
KeepsNotes old new = (take (length old.made) new.made ≡ old.made) × (take (length old.found) new.found ≡ old.found) × (take (length old.hashed) new.hashed ≡ old.hashed)
