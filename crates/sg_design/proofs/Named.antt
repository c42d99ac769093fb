-- Words that are no names are no names of a list.
use Rattle.std.proofs.Common.{◌≡◌, ℕ, true, not, ◌&&◌, List, [], ◌∷◌, bytes_eq, inl, inr, true≢false, sym, subst}
use Rattle.std.specs.Prelude.{IsTrue}
use Rattle.std.specs.List.{list_all}
use Rattle.std.proofs.lemmas.Bool.{and_parts, cases_Bool}
use Rattle.std.proofs.lemmas.Slice.Eq.{bytes_eq-Decides}
use Rattle.sg_model.specs.Lists.{all_differ, has_text}
use Rattle.sg_protocol.specs.Graph.{AreNames, Name, is_name, reserved}

-- a text among names is a name
among : (names : List Name) (n : List ℕ) → list_all (λ m. is_name m && not (has_text m reserved)) names ≡ true → has_text n names ≡ true → is_name n ≡ true
among [] n all has = absurd (true≢false (sym has))
among (m ∷ ms) n all has =
    let parts = and_parts (is_name m && not (has_text m reserved)) (list_all (λ k. is_name k && not (has_text k reserved)) ms) all in
    elim (cases_Bool (bytes_eq n m)) [
      | inl y ↦ subst (λ t. is_name t ≡ true) (sym ((bytes_eq-Decides n m).0 y)) (and_parts (is_name m) (not (has_text m reserved)) parts.0).0
      | inr d ↦ among ms n parts.1 (rw d at has)
    ]

-- so one that is no name is none of them
pub not_among : (names : List Name) (n : List ℕ) → AreNames names → (IsTrue (is_name n) → ⊥) → IsTrue (has_text n names) → ⊥
not_among names n are none has = none (among names n (and_parts (list_all (λ m. is_name m && not (has_text m reserved)) names) (all_differ names) are).0 has)
