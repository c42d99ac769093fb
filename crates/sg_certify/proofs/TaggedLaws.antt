-- The set of notes that are kept, in terms of the notes.
use Rattle.std.proofs.Common.{◌≡◌, Bool, true, false, List, [], ◌∷◌, ◌++◌, map, ◌&&◌, ◌||◌, if◌then◌else◌, bytes_eq, refl, sym, ap, ◌∙◌, inl, inr}
use Rattle.std.specs.List.{list_any}
use Rattle.std.proofs.lemmas.Bool.{cases_Bool}
use Rattle.std.proofs.lemmas.List.{map-append}
use Rattle.std.proofs.lemmas.List.Folds.{list_any-append}
use Rattle.indexmap.specs.IndexSet.{insert_key}
use Rattle.sg_model.proofs.Small.{or_false}
use Rattle.sg_protocol.specs.Notes.{Note}
use Rattle.sg_protocol.specs.Broken.{same_note}
use Rattle.sg_protocol.proofs.Broken.{same_note_is}
use Rattle.sg_certify.specs.declared.tagged_texts.TaggedText.{TaggedText}
use Rattle.sg_certify.specs.Model.{note_kept}
use Rattle.sg_certify.specs.contracts.tagged_texts.TaggedTextPartialEq.TheImpl.{eq-value}
use Rattle.sg_base.proofs.SameName.{same-bytes_eq}

-- the `==` of notes that are kept
abbrev pub same_kept : TaggedText → TaggedText → Bool
same_kept a b = eq-value.it a b

-- it is that of the notes
same_said : (a b : TaggedText) → same_kept a b ≡ same_note (note_kept a) (note_kept b)
same_said a b = (λ i. same-bytes_eq a.one.now b.one.now i && (same-bytes_eq a.two.now b.two.now i && bytes_eq a.text.now b.text.now)) ∙ and_assoc (bytes_eq a.one.now b.one.now) (bytes_eq a.two.now b.two.now) (bytes_eq a.text.now b.text.now)
  where
    and_assoc : (x y z : Bool) → (x && (y && z)) ≡ (x && y && z)
    and_assoc true y z = refl
    and_assoc false y z = refl

-- a note is in the set if it is among the notes
pub any_kept : (s : TaggedText) (keys : List TaggedText) → list_any (same_kept s) keys ≡ list_any (same_note (note_kept s)) (map note_kept keys)
any_kept s [] = refl
any_kept s (k ∷ ks) = λ i. same_said s k i || any_kept s ks i

or_there : (x y : Bool) → (y ≡ true → x ≡ true) → x ≡ x || y
or_there true y h = refl
or_there false false h = refl
or_there false true h = h refl

-- a note is among those after an insert if it was there or is the one inserted
pub any_added : (n : Note) (keys : List TaggedText) (k : TaggedText) → list_any (same_note n) (map note_kept (insert_key same_kept keys k)) ≡ (list_any (same_note n) (map note_kept keys) || same_note n (note_kept k))
any_added n keys k = elim (cases_Bool (list_any (same_kept k) keys)) [
  | inl e ↦ ap (λ b. list_any (same_note n) (map note_kept (if b then keys else keys ++ k ∷ []))) e ∙ or_there _ _ (λ h. ap (λ m. list_any (same_note m) (map note_kept keys)) (same_note_is n (note_kept k) h) ∙ sym (any_kept k keys) ∙ e)
  | inr e ↦
      ap (λ b. list_any (same_note n) (map note_kept (if b then keys else keys ++ k ∷ []))) e
      ∙ ap (list_any (same_note n)) (map-append note_kept keys (k ∷ []))
      ∙ list_any-append (same_note n) (map note_kept keys) (note_kept k ∷ [])
      ∙ ap (λ b. list_any (same_note n) (map note_kept keys) || b) (or_false (same_note n (note_kept k)))
]
