-- What a step makes by what is held is what it makes in each session that the state represents.
use Rattle.std.proofs.Common.{◌≡◌, ℕ, ◌<◌, ◌==◌, if◌then◌else◌, List, [], ◌∷◌, ◌++◌, map, filter_map, length, get_or, refl, sym, ◌∙◌, ap, Option, Some, None, inl, inr}
use Rattle.std.specs.List.{AllByRecursion, cons_option}
use Rattle.std.specs.Option.{option_or}
use Rattle.std.proofs.lemmas.Bool.{cases_Bool}
use Rattle.sg_model.proofs.Evidence.{evidence_again, evidence_since}
use Rattle.sg_model.specs.Last.{Map, Entry, has, last, after_last, evidence}
use Rattle.sg_model.specs.Lists.{value_at}
use Rattle.sg_model.specs.Shape.{receiver}
use Rattle.sg_model.specs.Values.{Value, Opening}
use Rattle.sg_law.proofs.Lists.{has-map}
use Rattle.sg_protocol.specs.Acting.{rows_of_send}
use Rattle.sg_protocol.specs.Frame.{Item, Frame}
use Rattle.sg_protocol.specs.Graph.{Graph, IsGraph, shape, reads}
use Rattle.sg_protocol.specs.Kept.{kept_items}
use Rattle.sg_protocol.specs.Keyring.{Keyring, Program, targets_of}
use Rattle.sg_protocol.specs.Notes.{note_of, notes_of_sent}
use Rattle.sg_protocol.specs.Sending.{entry_of, item_of, shown_to, tags_left, tag_for, plain_item, own_item, text_to, text_of, opening_of, frame_sent, plain_frame}
use Rattle.sg_protocol.specs.Session.{Session, principal, transcript, committed, commitments, known, opening_in}
use Rattle.sg_protocol.specs.Representation.{Held, held}
use Rattle.sg_protocol.specs.Texts.{real, item_text_of, commitment_text_of}
use Rattle.sg_protocol.proofs.Ends.{below_same, committed-append}
use Rattle.sg_protocol.proofs.Following.{get_below}
use Rattle.sg_protocol.proofs.KeptLaws.{kept-kept}
use Rattle.sg_protocol.proofs.Sent.{reads_in}
use Rattle.sg_protocol.proofs.Enough.{has-kept}
use Rattle.sg_role.specs.Stepping.{first_bad, send_rows, delta_of, own_text, step_commitments, step_item, items_after, plain_step, step_frame, step_notes}

after_last_map : (g : Graph) (r : ℕ) (es : List (Entry Item (List ℕ))) → after_last (λ (i : Item). i.role) r (map (item_of g) es) ≡ map (item_of g) (after_last (λ (e : Entry Item (List ℕ)). e.step.role) r es)
after_last_map g r [] = refl
after_last_map g r (e ∷ es) = rw (has-map (item_of g) (λ (i : Item). i.role) r es) (
    elim (cases_Bool (has (λ (e : Entry Item (List ℕ)). e.step.role) r es)) [
      | inl h ↦ rw h (after_last_map g r es)
      | inr h ↦ rw h (elim (cases_Bool (e.step.role == r)) [ inl q ↦ rw q refl | inr q ↦ rw q refl ])
    ])

-- what is shown of items is what is left of what is kept of them
shown_left : (g : Graph) (r : ℕ) (items : List Item) → tags_left (after_last (λ (i : Item). i.role) r (kept_items g items)) ≡ shown_to g r items
shown_left g r items = ap tags_left (after_last_map g r (evidence (λ (i : Item). i.role) (map entry_of items)) ∙ ap (map (item_of g)) (evidence_since (λ (i : Item). i.role) r (map entry_of items)))

picked_same : (n : ℕ) (f h : ℕ → Option Opening) (xs : List ℕ) → AllByRecursion (λ x. x < n) xs → ((x : ℕ) → x < n → f x ≡ h x) → filter_map f xs ≡ filter_map h xs
picked_same n f h [] a e = refl
picked_same n f h (x ∷ xs) a e = ap (λ o. cons_option o (filter_map f xs)) (e x a.0) ∙ ap (cons_option (h x)) (picked_same n f h xs a.1 e)

module _ (keys : Keyring) (p : Program) (s : Session) (label : ℕ) (written : List Opening) where
  abbrev h : Held
  h = held p.graph s

  abbrev plain : Item
  plain = plain_item real s label written

  commitments_same : (i : Item) → i.delta ≡ delta_of s.sid written → commitments p.graph (transcript s ++ i ∷ []) ≡ step_commitments p h written
  commitments_same i d = below_same (λ x. committed x (transcript s ++ i ∷ [])) (λ x. option_or (value_at (delta_of s.sid written) x) (get_or (commitments p.graph (transcript s)) x None)) (length p.graph.variables) (λ x l.
      committed-append x (transcript s) (i ∷ []) ∙ ap (λ m. option_or (value_at m x) (committed x (transcript s))) d
      ∙ ap (option_or (value_at (delta_of s.sid written) x)) (sym (get_below (λ x. committed x (transcript s)) None (length p.graph.variables) x l)))

  text_same : (i : Item) (t : ℕ) → i.role ≡ s.role → i.label ≡ label → i.time ≡ plain.time → i.delta ≡ delta_of s.sid written → own_text h label (step_commitments p h written) t ≡ text_to p.graph s (transcript s) i t
  text_same i t a b c d =
      ap (item_text_of s.cast.version s.sid s.role t label plain.time) (sym (commitments_same i d))
      ∙ ap (λ z. item_text_of s.cast.version s.sid z t label plain.time (commitments p.graph (transcript s ++ i ∷ []))) (sym a)
      ∙ ap (λ z. item_text_of s.cast.version s.sid i.role t z plain.time (commitments p.graph (transcript s ++ i ∷ []))) (sym b)
      ∙ ap (λ z. item_text_of s.cast.version s.sid i.role t i.label z (commitments p.graph (transcript s ++ i ∷ []))) (sym c)

  mapped : {A : Type 0} (f k : ℕ → A) (xs : List ℕ) → ((x : ℕ) → f x ≡ k x) → map f xs ≡ map k xs
  mapped f k [] e = refl
  mapped f k (x ∷ xs) e = ap (λ y. y ∷ map f xs) (e x) ∙ ap (λ l. k x ∷ l) (mapped f k xs e)

  item_same : step_item keys p h label written ≡ own_item real keys p s label written
  item_same = ap (λ ts. record plain { tags = ts }) (mapped _ _ (targets_of p label) (λ t. ap (λ z. (t, tag_for real keys s.cast t z)) (text_same plain t refl refl refl refl)))

  items_same : items_after p.graph h (own_item real keys p s label written) ≡ kept_items p.graph (transcript s ++ own_item real keys p s label written ∷ [])
  items_same = kept-kept (evidence_again (λ (i : Item). i.role)) (evidence_since (λ (i : Item). i.role)) p.graph (transcript s) (own_item real keys p s label written ∷ [])

  openings_same : IsGraph p.graph → filter_map (λ x. option_or (opening_in written x) (get_or h.kept.openings x None)) (reads p.graph label) ≡ filter_map (opening_of s written) (reads p.graph label)
  openings_same g = picked_same (length p.graph.variables) (λ x. option_or (opening_in written x) (get_or h.kept.openings x None)) (opening_of s written) (reads p.graph label)
      (reads_in (length p.graph.variables) p.graph.edges g.variables label).1
      (λ x l. ap (option_or (opening_in written x)) (get_below (known s) None (length p.graph.variables) x l))

  abbrev to : ℕ
  to = receiver (shape p.graph) label

  plain_same : IsGraph p.graph → plain_step keys p h label written ≡ plain_frame p s (own_item real keys p s label written) written
  plain_same g = λ j. record {
    version = s.cast.version;
    sid = s.sid;
    sender = s.role;
    receiver = to;
    join = if has-kept p.graph to (transcript s) j then None else Some s.cast;
    items = ((ap (λ i. tags_left (after_last (λ (k : Item). k.role) to (items_after p.graph h i))) item_same)
        ∙ (ap (λ l. tags_left (after_last (λ (k : Item). k.role) to l)) items_same)
        ∙ shown_left p.graph to (transcript s ++ own_item real keys p s label written ∷ [])) j;
    openings = openings_same g j;
    tag = [];
  }

  frame_same : IsGraph p.graph → step_frame keys p h label written ≡ frame_sent real keys p s label written
  frame_same g = ap (λ (f : Frame). record f { tag = tag_for real keys s.cast f.receiver (text_of f) }) (plain_same g)

  notes_same : IsGraph p.graph → last (frame_sent real keys p s label written).items ≡ Some (own_item real keys p s label written) → step_notes keys p h label written ≡ notes_of_sent keys p s (frame_sent real keys p s label written) written
  notes_same g l = rw l (λ j. record {
    made = mapped (λ t. note_of keys.me (principal s.cast t) (own_text h label (step_commitments p h written) t)) (λ t. note_of keys.me (principal s.cast t) (text_to p.graph s (transcript s) (own_item real keys p s label written) t)) (targets_of p label)
        (λ t. ap (note_of keys.me (principal s.cast t)) (text_same (own_item real keys p s label written) t refl refl refl refl)) j
        ++ note_of keys.me (principal s.cast to) (text_of (plain_same g j)) ∷ [];
    found = [];
    hashed = map (commitment_text_of s.sid) written;
  })

-- ---- by the state

module _ (keys : Keyring) (p : Program) (h : Held) (s : Session) (e : h ≡ held p.graph s) (label : ℕ) where
  pub rows_held : (values : Map Value) → send_rows p h label values ≡ rows_of_send p s label values
  unfolding first_bad
  rows_held values = ap (λ z. send_rows p z label values) e

  module _ (written : List Opening) where
    pub item_held : step_item keys p h label written ≡ own_item real keys p s label written
    item_held = ap (λ z. step_item keys p z label written) e ∙ item_same keys p s label written

    pub frame_held : IsGraph p.graph → step_frame keys p h label written ≡ frame_sent real keys p s label written
    frame_held g = ap (λ z. step_frame keys p z label written) e ∙ frame_same keys p s label written g

    pub notes_held : IsGraph p.graph → last (frame_sent real keys p s label written).items ≡ Some (own_item real keys p s label written) → step_notes keys p h label written ≡ notes_of_sent keys p s (frame_sent real keys p s label written) written
    notes_held g l = ap (λ z. step_notes keys p z label written) e ∙ notes_same keys p s label written g l
