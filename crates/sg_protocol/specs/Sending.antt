-- The frame that a step sends.
use Rattle.std.specs.Prelude.{ℕ, List, [], ◌∷◌, length, if◌then◌else◌, map, filter, Option, Some, None, ◌+◌, not, ◌++◌, filter_map, unwrap_or}
use Rattle.std.specs.Option.{option_or}
use Rattle.sg_model.specs.Last.{Entry, evidence_for, has}
use Rattle.sg_model.specs.Lists.{in_order}
use Rattle.sg_model.specs.Shape.{receiver}
use Rattle.sg_model.specs.Values.{Opening}
use Rattle.sg_protocol.specs.Graph.{Graph, shape, reads}
use Rattle.sg_protocol.specs.Frame.{Cast, Item, Frame}
use Rattle.sg_protocol.specs.Spelling.{body}
use Rattle.sg_protocol.specs.Texts.{Hash, hmac, cut, item_text_of, frame_text_of, commitment}
use Rattle.sg_protocol.specs.Keyring.{Keyring, key_of, Program, targets_of}
use Rattle.sg_protocol.specs.Session.{Session, principal, transcript, time, commitments, opening_in, known}

-- ---- evidence, as a frame carries it

-- the tags of each item for roles that have no later item
abbrev pub tags_left : List Item → List Item
tags_left [] = []
tags_left (i ∷ is) = record i { tags = filter (λ t. not (has (λ j. j.role) t.0 is)) i.tags } ∷ tags_left is

-- an item as an entry
abbrev pub entry_of : Item → Entry Item (List ℕ)
entry_of i = record { step = i; writes = i.delta }

-- an entry as an item, with its commitments in order
abbrev pub item_of : Graph → Entry Item (List ℕ) → Item
item_of g e = record (e.step) { delta = in_order (length g.variables) e.writes }

-- the evidence for role r among the items
abbrev pub shown_to : Graph → ℕ → List Item → List Item
shown_to g r items = tags_left (map (item_of g) (evidence_for (λ i. i.role) r (map entry_of items)))

-- ---- the own item

-- the tag of a text under the key that I share with the principal of role r, or under no bytes if I share none
abbrev pub tag_for : Hash → Keyring → Cast → ℕ → List ℕ → List ℕ
tag_for sha keys c r text = cut c.version (hmac sha (unwrap_or (key_of keys (principal c r)) []) text)

-- the own item along the label before its tags: one tick after the last, and the commitments of what is written
abbrev pub plain_item : Hash → Session → ℕ → List Opening → Item
plain_item sha s label written = record {
  role = s.role;
  label = label;
  time = time s + 1;
  delta = map (λ o. (o.variable, commitment sha s.sid o)) written;
  tags = [];
}

-- what an item says to role t, after the items before it
abbrev pub text_to : Graph → Session → List Item → Item → ℕ → List ℕ
text_to g s before i t = item_text_of s.cast.version s.sid i.role t i.label i.time (commitments g (before ++ i ∷ []))

-- the own item with a tag for each target
abbrev pub own_item : Hash → Keyring → Program → Session → ℕ → List Opening → Item
own_item sha keys p s label written =
    let i = plain_item sha s label written in
    record i { tags = map (λ t. (t, tag_for sha keys s.cast t (text_to p.graph s (transcript s) i t))) (targets_of p label) }

-- ---- the frame

-- the opening of x: the written ones take precedence
abbrev pub opening_of : Session → List Opening → ℕ → Option Opening
opening_of s written x = option_or (opening_in written x) (known s x)

-- the frame before its tag: the evidence for the receiver, what it reads, and the cast exactly if it has no item yet
abbrev pub plain_frame : Program → Session → Item → List Opening → Frame
plain_frame p s i written =
    let to = receiver (shape p.graph) i.label in
    record {
      version = s.cast.version;
      sid = s.sid;
      sender = s.role;
      receiver = to;
      join = if has (λ j. j.role) to (transcript s) then None else Some s.cast;
      items = shown_to p.graph to (transcript s ++ i ∷ []);
      openings = filter_map (opening_of s written) (reads p.graph i.label);
      tag = [];
    }

-- what the frame's tag says
abbrev pub text_of : Frame → List ℕ
text_of f = frame_text_of f.version (body f)

-- the frame that a step along the label sends
abbrev pub frame_sent : Hash → Keyring → Program → Session → ℕ → List Opening → Frame
frame_sent sha keys p s label written =
    let f = plain_frame p s (own_item sha keys p s label written) written in
    record f { tag = tag_for sha keys s.cast f.receiver (text_of f) }
