-- What is looked at item by item.
use Rattle.std.proofs.Common.{◌≡◌, ℕ, ◌+◌, ◌<◌, ◌≤◌, Bool, true, false, not, List, [], ◌∷◌, ◌++◌, length, take, drop, get_or, if◌then◌else◌, map, Option, Some, None, option_map, position, take_while, refl, sym, ap, ◌∙◌, arith, append_assoc, inl, inr}
use Rattle.std.proofs.lemmas.Bool.{cases_Bool}
use Rattle.std.proofs.lemmas.List.Sums.{take_while-cons}
use Rattle.std.proofs.Math.Seq.{take-length}
use Rattle.sg_model.specs.Values.{Opening}
use Rattle.sg_model.proofs.Small.{drop_at, drop_end}
use Rattle.sg_protocol.specs.Calls.{Refusal, BadEvidence, BadOpening}
use Rattle.sg_protocol.specs.Frame.{Item}
use Rattle.sg_protocol.specs.Graph.{Graph}
use Rattle.sg_protocol.specs.Keyring.{Keyring}
use Rattle.sg_protocol.specs.Notes.{Note, Notes, note_of}
use Rattle.sg_protocol.specs.Session.{principal}
use Rattle.sg_protocol.specs.Representation.{Held}
use Rattle.sg_protocol.specs.Texts.{real}
use Rattle.sg_protocol.specs.Verdict.{has_item_tag, has_kind}
use Rattle.sg_role.specs.Looking.{bare, overwritten, overwritten_by, text_for, texts_from, found_items, evidence_row, opens, opening_row, hashed_from, KeepsNotes}
use Rattle.sg_role.proofs.Lists.{drop_more, position_step, take_keep}

-- ---- openings

module _ (g : Graph) (sid : List ℕ) (cs : List (Option (List ℕ))) (os : List Opening) (at : ℕ) (o : Opening) (l : at < length os) (e : o ≡ get_or os at o) where
  pub opening_wrong : opens g sid cs o ≡ false → opening_row g sid cs (drop at os) ≡ Some (BadOpening o.variable)
  opening_wrong h = ap (opening_row g sid cs) (drop_at os at o l e) ∙ rw h refl

  pub opening_right : opens g sid cs o ≡ true → opening_row g sid cs (drop at os) ≡ opening_row g sid cs (drop (at + 1) os)
  opening_right h = ap (opening_row g sid cs) (drop_at os at o l e) ∙ rw h refl

  pub hashed_wrong : opens g sid cs o ≡ false → has_kind g o ≡ true → hashed_from g sid cs (drop at os) ≡ o ∷ []
  hashed_wrong h k = ap (hashed_from g sid cs) (drop_at os at o l e) ∙ rw (h, k) refl

  pub hashed_right : opens g sid cs o ≡ true → hashed_from g sid cs (drop at os) ≡ o ∷ hashed_from g sid cs (drop (at + 1) os)
  hashed_right h = ap (hashed_from g sid cs) (drop_at os at o l e) ∙ rw h refl

-- ---- items

module _ (keys : Keyring) (h : Held) where
  abbrev is_right : Item → List (Option (List ℕ)) → Bool
  is_right i cs = has_item_tag real keys (bare h) (i, text_for h cs i)

  abbrev noted : Item → List (Option (List ℕ)) → Note
  noted i cs = note_of keys.me (principal h.cast i.role) (text_for h cs i)

  -- the first item without a right tag, from number n on
  abbrev pub looked : ℕ → List (Option (List ℕ)) → List Item → Option Refusal
  looked n cs [] = None
  looked n cs (i ∷ []) = None
  looked n cs (i ∷ j ∷ is) = if is_right i (overwritten cs i.delta) then looked (n + 1) (overwritten cs i.delta) (j ∷ is) else Some (BadEvidence n)

  -- what is noted of items whose tags are found right
  abbrev pub founds : List (Option (List ℕ)) → List Item → List Note
  founds cs [] = []
  founds cs (i ∷ []) = []
  founds cs (i ∷ j ∷ is) = if is_right i (overwritten cs i.delta) then (noted i (overwritten cs i.delta) ∷ founds (overwritten cs i.delta) (j ∷ is)) else []

  rest : (n : ℕ) (o : Option ℕ) → option_map (λ k. BadEvidence (k + n)) (option_map (λ k. k + 1) o) ≡ option_map (λ k. BadEvidence (k + (n + 1))) o
  rest n None = refl
  rest n (Some k) = ap (λ z. Some (BadEvidence z)) (go n k)
    where
      go : (n k : ℕ) → (k + 1) + n ≡ k + (n + 1)
      go n k = omega arith

  looked_is : (n : ℕ) (cs : List (Option (List ℕ))) (is : List Item) → option_map (λ k. BadEvidence (k + n)) (position (λ c. not (has_item_tag real keys (bare h) c)) (texts_from h cs is)) ≡ looked n cs is
  looked_is n cs [] = refl
  looked_is n cs (i ∷ []) = refl
  looked_is n cs (i ∷ j ∷ is) =
      ap (option_map (λ k. BadEvidence (k + n))) (position_step (has_item_tag real keys (bare h)) (i, text_for h (overwritten cs i.delta) i) (texts_from h (overwritten cs i.delta) (j ∷ is)))
      ∙ elim (cases_Bool (is_right i (overwritten cs i.delta))) [
        | inl e ↦ rw e (rest n (position (λ c. not (has_item_tag real keys (bare h) c)) (texts_from h (overwritten cs i.delta) (j ∷ is))) ∙ looked_is (n + 1) (overwritten cs i.delta) (j ∷ is))
        | inr e ↦ rw e (ap (λ z. Some (BadEvidence z)) (none_before n))
      ]
    where
      none_before : (n : ℕ) → 0 + n ≡ n
      none_before n = omega arith

  pub row_looked : (items : List Item) → evidence_row keys h items ≡ looked 1 h.kept.commitments items
  row_looked items = looked_is 1 h.kept.commitments items

  founds_is : (cs : List (Option (List ℕ))) (is : List Item) → map (λ (c : Item × List ℕ). note_of keys.me (principal h.cast (c.0).role) c.1) (take_while (has_item_tag real keys (bare h)) (texts_from h cs is)) ≡ founds cs is
  founds_is cs [] = refl
  founds_is cs (i ∷ []) = refl
  founds_is cs (i ∷ j ∷ is) =
      ap (map (λ (c : Item × List ℕ). note_of keys.me (principal h.cast (c.0).role) c.1)) (take_while-cons (has_item_tag real keys (bare h)) (i, text_for h (overwritten cs i.delta) i) (texts_from h (overwritten cs i.delta) (j ∷ is)))
      ∙ elim (cases_Bool (is_right i (overwritten cs i.delta))) [
        | inl e ↦ rw e (ap (λ l. noted i (overwritten cs i.delta) ∷ l) (founds_is (overwritten cs i.delta) (j ∷ is)))
        | inr e ↦ rw e refl
      ]

  pub items_found : (items : List Item) → found_items keys h items ≡ founds h.kept.commitments items
  items_found items = founds_is h.kept.commitments items

  module _ (items : List Item) (at : ℕ) (i : Item) (l : at < length items) (e : i ≡ get_or items at i) (n : ℕ) (cs : List (Option (List ℕ))) where
    abbrev now : List (Option (List ℕ))
    now = overwritten cs i.delta

    pub by_step : overwritten_by cs (drop at items) ≡ overwritten_by now (drop (at + 1) items)
    by_step = ap (overwritten_by cs) (drop_at items at i l e)

    two : at + 1 < length items → (j : Item) × (is : List Item) × (drop (at + 1) items ≡ j ∷ is) × (drop at items ≡ i ∷ j ∷ is)
    two m = let d = drop_more items (at + 1) m in (d.0, d.1, d.2, drop_at items at i l e ∙ ap (λ r. i ∷ r) d.2)

    one : length items ≤ at + 1 → (drop (at + 1) items ≡ []) × (drop at items ≡ i ∷ [])
    one m = let d = drop_end items (at + 1) m in (d, drop_at items at i l e ∙ ap (λ r. i ∷ r) d)

    pub looked_right : at + 1 < length items → is_right i now ≡ true → looked n cs (drop at items) ≡ looked (n + 1) now (drop (at + 1) items)
    looked_right m r = let t = two m in ap (looked n cs) t.3 ∙ rw r (sym (ap (looked (n + 1) now) t.2))

    pub looked_last : length items ≤ at + 1 → looked n cs (drop at items) ≡ looked (n + 1) now (drop (at + 1) items)
    looked_last m = let t = one m in ap (looked n cs) t.1 ∙ sym (ap (looked (n + 1) now) t.0)

    pub founds_right : at + 1 < length items → is_right i now ≡ true → founds cs (drop at items) ≡ noted i now ∷ founds now (drop (at + 1) items)
    founds_right m r = let t = two m in ap (founds cs) t.3 ∙ rw r (ap (λ z. noted i now ∷ z) (sym (ap (founds now) t.2)))

    pub founds_last : length items ≤ at + 1 → founds cs (drop at items) ≡ founds now (drop (at + 1) items)
    founds_last m = let t = one m in ap (founds cs) t.1 ∙ sym (ap (founds now) t.0)

  -- ---- the loop over the items: what is left to look at, and what was noted

  abbrev pub Looking : List Item → Notes → ℕ → List (Option (List ℕ)) → Notes → Type 0
  Looking items n0 at cs n =
      (overwritten_by h.kept.commitments items ≡ overwritten_by cs (drop at items))
      × (evidence_row keys h items ≡ looked (at + 1) cs (drop at items))
      × (n.found ++ founds cs (drop at items) ≡ n0.found ++ found_items keys h items)
      × (n.made ≡ n0.made) × (n.hashed ≡ n0.hashed) × KeepsNotes n0 n

  pub begins : (items : List Item) (n0 : Notes) → Looking items n0 0 h.kept.commitments n0
  begins items n0 = (refl, row_looked items, ap (λ l. n0.found ++ l) (sym (items_found items)), refl, refl, (take-length n0.made, take-length n0.found, take-length n0.hashed))

  module _ (items : List Item) (n0 : Notes) (at : ℕ) (i : Item) (l : at < length items) (e : i ≡ get_or items at i) (cs : List (Option (List ℕ))) (n : Notes) (inv : Looking items n0 at cs n) where
    abbrev next : List (Option (List ℕ))
    next = overwritten cs i.delta

    pub goes_right : (new : Notes) → at + 1 < length items → is_right i next ≡ true → new ≡ record n { found = n.found ++ noted i next ∷ [] } → Looking items n0 (at + 1) next new
    goes_right new m r w =
        let its = ap (λ (n : Notes). n.found) w in (
          inv.0 ∙ by_step items at i l e (at + 1) cs,
          inv.1 ∙ looked_right items at i l e (at + 1) cs m r,
          ap (λ f. f ++ founds next (drop (at + 1) items)) its ∙ append_assoc n.found (noted i next ∷ []) (founds next (drop (at + 1) items)) ∙ ap (λ f. n.found ++ f) (sym (founds_right items at i l e (at + 1) cs m r)) ∙ inv.2,
          ap (λ (n : Notes). n.made) w ∙ inv.3,
          ap (λ (n : Notes). n.hashed) w ∙ inv.4,
          (
            ap (λ (n : Notes). take (length n0.made) n.made) w ∙ inv.5.0,
            ap (take (length n0.found)) its ∙ take_keep n0.found n.found (noted i next ∷ []) inv.5.1,
            ap (λ (n : Notes). take (length n0.hashed) n.hashed) w ∙ inv.5.2,
          ),
        )

    pub goes_last : length items ≤ at + 1 → Looking items n0 (at + 1) next n
    goes_last m = (
      inv.0 ∙ by_step items at i l e (at + 1) cs,
      inv.1 ∙ looked_last items at i l e (at + 1) cs m,
      ap (λ f. n.found ++ f) (sym (founds_last items at i l e (at + 1) cs m)) ∙ inv.2,
      inv.3,
      inv.4,
      inv.5,
    )
