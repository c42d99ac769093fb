-- The set of the honest roles of a cast, role by role.
use Rattle.std.proofs.Common.{◌≡◌, ℕ, zero, suc, ◌+◌, ◌<◌, ◌==◌, nat_lt, Bool, true, false, ◌&&◌, inl, inr, List, [], ◌∷◌, length, get_or, refl, sym, ◌∙◌, ap, arith}
use Rattle.std.proofs.lemmas.Bool.{eqb-true, cases_Bool}
use Rattle.std.proofs.lemmas.Bool.Decides.{nat_tests}
use Rattle.sg_base.specs.Sets.{with_member}
use Rattle.sg_base.proofs.SetLaws.{is_in-with_role}
use Rattle.sg_model.specs.Lists.{is_in, has_text}
use Rattle.sg_model.specs.Names.{Name}
use Rattle.sg_model.proofs.Small.{and_false}
use Rattle.sg_protocol.specs.Frame.{Cast}
use Rattle.sg_protocol.specs.Session.{principal}

-- the set has the honest ones of the first roles
abbrev pub AreHonestBelow : List Name → Cast → ℕ → List ℕ → Type 0
AreHonestBelow names cast n set = (r : ℕ) → is_in r set ≡ (nat_lt r n && has_text (principal cast r) names)

next_at : (n r : ℕ) → (r == n) ≡ false → nat_lt r (n + 1) ≡ nat_lt r n
next_at n r e = grind (arith, nat_tests, e)

-- one role more, which is honest
pub honest_more : (names : List Name) (cast : Cast) (n : ℕ) (set : List ℕ) → n < 16 → has_text (principal cast n) names ≡ true → AreHonestBelow names cast n set → AreHonestBelow names cast (n + 1) (with_member 16 set n)
honest_more names cast n set small honest h r = is_in-with_role n r set ∙ elim (cases_Bool (r == n)) [
  | inl e ↦
      (let same : r ≡ n = eqb-true r n e in
      let a : nat_lt r 16 ≡ true = grind (arith, nat_tests, same, small) in
      let b : nat_lt r (n + 1) ≡ true = grind (arith, nat_tests, same) in
      let yes : has_text (principal cast r) names ≡ true = ap (λ k. has_text (principal cast k) names) same ∙ honest in
      rw (a, b, e, yes) refl)
  | inr e ↦
      (let b : nat_lt r (n + 1) ≡ nat_lt r n = next_at n r e in
      rw (e, b, h r) (within (nat_lt r n) refl))
]
  where
    within : (c : Bool) → nat_lt r n ≡ c → (nat_lt r 16 && (c && has_text (principal cast r) names)) ≡ (c && has_text (principal cast r) names)
    within true e = ap (λ b. b && has_text (principal cast r) names) (let z : nat_lt r 16 ≡ true = grind (arith, nat_tests, e, small) in z)
    within false e = and_false (nat_lt r 16)

-- one role more, which is not
pub honest_same : (names : List Name) (cast : Cast) (n : ℕ) (set : List ℕ) → has_text (principal cast n) names ≡ false → AreHonestBelow names cast n set → AreHonestBelow names cast (n + 1) set
honest_same names cast n set other h r = h r ∙ elim (cases_Bool (r == n)) [
  | inl e ↦
      (let same : r ≡ n = eqb-true r n e in
      let no : has_text (principal cast r) names ≡ false = ap (λ k. has_text (principal cast k) names) same ∙ other in
      rw no (both (nat_lt r n) (nat_lt r (n + 1))))
  | inr e ↦ (let b : nat_lt r (n + 1) ≡ nat_lt r n = next_at n r e in rw b refl)
]
  where
    both : (a b : Bool) → (a && false) ≡ (b && false)
    both true true = refl
    both true false = refl
    both false true = refl
    both false false = refl

-- the principal of a role stands at its index
pub there : (cast : Cast) (names : List Name) (n : ℕ) (name : Name) → names ≡ cast.names → n < length cast.names → name ≡ get_or names n name → principal cast n ≡ name
there cast names n name is less at = any_default cast.names n [] name less ∙ ap (λ (ns : List Name). get_or ns n name) (sym is) ∙ sym at
  where
    any_default : (ns : List Name) (n : ℕ) (a b : Name) → n < length ns → get_or ns n a ≡ get_or ns n b
    any_default [] n a b h = absurd (omega (arith, h))
    any_default (x ∷ xs) zero a b h = refl
    any_default (x ∷ xs) (suc n) a b h = any_default xs n a b (omega (arith, h))
