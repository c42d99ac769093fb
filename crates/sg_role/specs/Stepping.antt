-- What a step of a role makes, by what it holds alone.
use Rattle.std.specs.Prelude.{◌≡◌, ℕ, ◌+◌, ◌==◌, ◌&&◌, nat_lt, nat_le, not, if◌then◌else◌, List, [], ◌∷◌, ◌++◌, map, filter_map, find, length, get_or, Option, Some, None, option_map}
use Rattle.std.specs.Option.{option_or}
use Rattle.sg_model.specs.Last.{Map, has, after_last}
use Rattle.sg_model.specs.Lists.{below, value_at}
use Rattle.sg_model.specs.Shape.{receiver, source, target}
use Rattle.sg_model.specs.Values.{Value, Opening}
use Rattle.sg_model.specs.Limits.{most_time}
use Rattle.sg_protocol.specs.Acting.{is_bad}
use Rattle.sg_protocol.specs.Calls.{SendFault, NoSuchLabel, BadValues, TimeSpent}
use Rattle.sg_protocol.specs.Frame.{Item, Frame}
use Rattle.sg_protocol.specs.Graph.{Graph, shape, reads}
use Rattle.sg_protocol.specs.Kept.{kept_items}
use Rattle.sg_protocol.specs.Keyring.{Keyring, Program, targets_of}
use Rattle.sg_protocol.specs.Notes.{Note, Notes, note_of}
use Rattle.sg_protocol.specs.Sending.{tag_for, tags_left, text_of}
use Rattle.sg_protocol.specs.Session.{principal, opening_in}
use Rattle.sg_protocol.specs.Representation.{Held}
use Rattle.sg_protocol.specs.Texts.{real, item_text_of, commitment, commitment_text_of}
use Rattle.sg_protocol.specs.Verdict.{row}

-- the least variable that is missing, not to be written, repeated, out of order or of the wrong type
unfoldable pub first_bad : Graph → ℕ → Map Value → Option ℕ
first_bad g label values = find (is_bad g label values) (below 256)

-- why no step is sent along the label
abbrev pub send_rows : Program → Held → ℕ → Map Value → List (Option SendFault)
send_rows p h label values =
    row (not (nat_lt label (length p.graph.edges) && (source (shape p.graph) label == h.kept.place))) NoSuchLabel
    ∷ option_map BadValues (first_bad p.graph label values)
    ∷ row (nat_le most_time h.kept.time) TimeSpent
    ∷ []

-- the commitments of what is written
abbrev pub delta_of : List ℕ → List Opening → Map (List ℕ)
delta_of sid written = map (λ o. (o.variable, commitment real sid o)) written

-- the current commitments of n variables after a delta
abbrev pub commitments_after : ℕ → List (Option (List ℕ)) → Map (List ℕ) → List (Option (List ℕ))
commitments_after n cs delta = map (λ x. option_or (value_at delta x) (get_or cs x None)) (below n)

-- the openings of n variables after these were written
abbrev pub openings_after : ℕ → List (Option Opening) → List Opening → List (Option Opening)
openings_after n os written = map (λ x. option_or (opening_in written x) (get_or os x None)) (below n)

-- what the own item along the label says to role t, with these commitments
abbrev pub own_text : Held → ℕ → List (Option (List ℕ)) → ℕ → List ℕ
own_text h label cs t = item_text_of h.cast.version h.sid h.role t label (h.kept.time + 1) cs

-- the commitments after the step
abbrev pub step_commitments : Program → Held → List Opening → List (Option (List ℕ))
step_commitments p h written = commitments_after (length p.graph.variables) h.kept.commitments (delta_of h.sid written)

-- the own item
abbrev pub step_item : Keyring → Program → Held → ℕ → List Opening → Item
step_item keys p h label written = record {
  role = h.role;
  label = label;
  time = h.kept.time + 1;
  delta = delta_of h.sid written;
  tags = map (λ t. (t, tag_for real keys h.cast t (own_text h label (step_commitments p h written) t))) (targets_of p label);
}

-- the kept items after an own item
abbrev pub items_after : Graph → Held → Item → List Item
items_after g h i = kept_items g (h.kept.items ++ i ∷ [])

-- the frame before its tag, with these kept items
abbrev pub frame_with : Program → Held → ℕ → List Item → List Opening → Frame
frame_with p h label items written =
    let to = receiver (shape p.graph) label in
    record {
      version = h.cast.version;
      sid = h.sid;
      sender = h.role;
      receiver = to;
      join = if has (λ j. j.role) to h.kept.items then None else Some h.cast;
      items = tags_left (after_last (λ j. j.role) to items);
      openings = filter_map (λ x. option_or (opening_in written x) (get_or h.kept.openings x None)) (reads p.graph label);
      tag = [];
    }

-- the frame before its tag
abbrev pub plain_step : Keyring → Program → Held → ℕ → List Opening → Frame
plain_step keys p h label written = frame_with p h label (items_after p.graph h (step_item keys p h label written)) written

-- the frame
abbrev pub step_frame : Keyring → Program → Held → ℕ → List Opening → Frame
step_frame keys p h label written =
    let f = plain_step keys p h label written in
    record f { tag = tag_for real keys h.cast f.receiver (text_of f) }

-- what is held after the step, with these items and commitments
abbrev pub held_next : Program → Held → ℕ → List Item → List (Option (List ℕ)) → List Opening → Held
held_next p h label items commitments written = record h {
  kept = record {
    origin = Some label;
    own_time = h.kept.time + 1;
    time = h.kept.time + 1;
    place = target (shape p.graph) label;
    items = items;
    commitments = commitments;
    openings = openings_after (length h.kept.openings) h.kept.openings written;
  };
}

-- what is held after the step, which writes these
abbrev pub step_held : Keyring → Program → Held → ℕ → List Opening → Held
step_held keys p h label written = held_next p h label (items_after p.graph h (step_item keys p h label written)) (step_commitments p h written) written

-- what is noted: the text of each tag, and the commitment texts
abbrev pub step_notes : Keyring → Program → Held → ℕ → List Opening → Notes
step_notes keys p h label written = record {
  made = map (λ t. note_of keys.me (principal h.cast t) (own_text h label (step_commitments p h written) t)) (targets_of p label)
      ++ note_of keys.me (principal h.cast (receiver (shape p.graph) label)) (text_of (plain_step keys p h label written)) ∷ [];
  found = [];
  hashed = map (commitment_text_of h.sid) written;
}

-- the later notes are the earlier ones, and more
pub record Extends (a b : Notes) : Type 0 where
  pub made : List Note
  pub found : List Note
  pub hashed : List (List ℕ)
  pub more : b ≡ record { made = a.made ++ made; found = a.found ++ found; hashed = a.hashed ++ hashed }
