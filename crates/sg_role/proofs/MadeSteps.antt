-- A step that is made part by part: the own item, the kept items, the frame and what is noted are those of the step.
use Rattle.std.proofs.Common.{◌≡◌, ◌++◌, List, [], ◌∷◌, ℕ, Option, None, map, replicate, sym, ap, ◌∙◌, subst, append_assoc, append-nil}
use Rattle.sg_model.specs.Last.{Map}
use Rattle.sg_model.specs.Lists.{first_some}
use Rattle.sg_model.specs.Shape.{receiver}
use Rattle.sg_model.specs.Values.{Value, Opening}
use Rattle.sg_protocol.specs.Acting.{openings_for}
use Rattle.sg_protocol.specs.Bounds.{IsShortFrame}
use Rattle.sg_protocol.specs.Frame.{Item, Frame}
use Rattle.sg_protocol.specs.Graph.{shape}
use Rattle.sg_protocol.specs.IsSchedule.{IsProgram}
use Rattle.sg_protocol.specs.Keyring.{Keyring, Program}
use Rattle.sg_protocol.specs.Notes.{Notes, note_of}
use Rattle.sg_protocol.specs.Ranges.{AreValues}
use Rattle.sg_protocol.specs.Reachable.{IsReachableAtTurn}
use Rattle.sg_protocol.specs.Representation.{Held}
use Rattle.sg_protocol.specs.Sending.{tag_for, text_of}
use Rattle.sg_protocol.specs.Session.{principal}
use Rattle.sg_protocol.specs.Spelling.{spelling}
use Rattle.sg_protocol.specs.Texts.{real, commitment_text_of}
use Rattle.sg_role.specs.Model.{RoleState}
use Rattle.sg_role.specs.Noting.{item_notes, with_item}
use Rattle.sg_role.specs.Sending.{with_notes}
use Rattle.sg_role.specs.Stepping.{frame_with, held_next, items_after, send_rows, step_commitments, step_frame, step_held, step_item, step_notes}
use Rattle.sg_role.proofs.Sealing.{untagged_short}
use Rattle.sg_role.proofs.SendLaws.{sends_short}

module _ (keys : Keyring) (p : Program) (h : Held) (label : ℕ) (values : Map Value) (confounders : List (List ℕ)) (written : List Opening) (are : written ≡ openings_for values confounders)
    (given : List Opening) (same : given ≡ written) (items : List Item) (joined : items ≡ items_after p.graph h (step_item keys p h label given)) where
  abbrev os : List Opening
  os = openings_for values confounders

  wrote : given ≡ os
  wrote = same ∙ are

  items_made : items ≡ items_after p.graph h (step_item keys p h label os)
  items_made = joined ∙ ap (λ os. items_after p.graph h (step_item keys p h label os)) wrote

  -- with the note of a frame
  abbrev with_note : Notes → Frame → Notes
  with_note n f = record n { made = n.made ++ note_of keys.me (principal h.cast f.receiver) (text_of f) ∷ [] }

  -- the frame, with zeros for its tag
  abbrev untagged : Frame
  untagged = record (step_frame keys p h label os) { tag = replicate 32 0 }

  module _ (frame : Frame) (made : frame ≡ record (frame_with p h label items written) { tag = replicate 32 0 }) where
    frame_made : frame ≡ untagged
    frame_made = made ∙ (λ j. record (frame_with p h label (items_made j) (are j)) { tag = replicate 32 0 })

    pub short_made : IsProgram real p → IsReachableAtTurn real p h → first_some (send_rows p h label values) ≡ None → AreValues values confounders → IsShortFrame frame
    short_made is turn none of = subst IsShortFrame (sym frame_made) (untagged_short (step_frame keys p h label os) (sends_short keys p h label values confounders is turn none of))

    -- what is sealed for the receiver's principal
    pub sealed_made : (sealed : List ℕ × List ℕ) → sealed ≡ (principal h.cast frame.receiver, spelling (record frame { tag = tag_for real keys h.cast frame.receiver (text_of frame) }))
        → sealed ≡ (principal h.cast (receiver (shape p.graph) label), spelling (step_frame keys p h label os))
    sealed_made sealed e =
        e ∙ (λ j. (principal h.cast (frame_made j).receiver, spelling (record (frame_made j) { tag = tag_for real keys h.cast (frame_made j).receiver (text_of (frame_made j)) })))

    -- what is noted of the frame, after the own item
    pub notes_made : (old first new : Notes) → first ≡ with_item keys p h label given old → new ≡ with_note first frame → new ≡ with_notes old (step_notes keys p h label os)
    notes_made old first new a b =
        b ∙ (λ j. with_note ((a ∙ ap (λ os. with_item keys p h label os old) wrote) j) (frame_made j))
        ∙ (λ j. record {
          made = append_assoc old.made (item_notes keys p h label os) (note_of keys.me (principal h.cast (receiver (shape p.graph) label)) (text_of (step_frame keys p h label os)) ∷ []) j;
          found = sym (append-nil old.found) j;
          hashed = old.hashed ++ map (commitment_text_of h.sid) os;
        })

  pub state_made : (next : RoleState) (commitments : List (Option (List ℕ))) → commitments ≡ step_commitments p h given → next ≡ record { program = p; held = held_next p h label items commitments written }
      → next ≡ record { program = p; held = step_held keys p h label os }
  state_made next commitments e q = q ∙ (λ j. record { program = p; held = held_next p h label (items_made j) ((e ∙ ap (step_commitments p h) wrote) j) (are j) })
