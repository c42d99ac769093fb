-- Walks past no node of two roles.
use Rattle.std.proofs.Common.{◌≡◌, ℕ, ◌+◌, ◌<◌, ◌==◌, nat_le, nat_lt, Bool, true, false, ◌⊎◌, ◌||◌, ◌&&◌, List, [], refl, sym, ◌∙◌, inl, inr, arith, eq-eqb}
use Rattle.std.proofs.lemmas.Bool.Decides.{nat_tests}
use Rattle.std.proofs.lemmas.Bool.{cases_Bool}
use Rattle.sg_base.specs.Sets.{with_member}
use Rattle.sg_base.proofs.SetLaws.{is_in-filter, is_in-with_member}
use Rattle.sg_model.specs.Lists.{is_in}
use Rattle.sg_model.specs.Shape.{Shape, Leads, end_of, role_at}
use Rattle.sg_reach.specs.Reaches.{LeadsPast}

-- the set of two roles
abbrev pub pair : ℕ → ℕ → List ℕ
pair a b = with_member 16 (with_member 16 [] a) b

-- no number that isn't below the width is in a set
pub is_in_past : (width x y : ℕ) (xs : List ℕ) → is_in x (with_member width xs y) ≡ true → x < width
unfolding with_member
is_in_past width x y xs h =
    let e : ((nat_le 0 x && nat_lt x (0 + width)) && ((x == y) || is_in x xs)) ≡ true = sym (is_in-filter (λ z. (z == y) || is_in z xs) 0 width x) ∙ h in
    within (nat_le 0 x) (nat_lt x (0 + width)) ((x == y) || is_in x xs) refl e
  where
    within : (a b c : Bool) → nat_lt x (0 + width) ≡ b → ((a && b) && c) ≡ true → x < width
    within true true c is e = grind (arith, nat_tests, is)
    within true false c is e = absurd (cc)
    within false b c is e = absurd (cc)

-- the first role is in the set
pub pair_first : (a b : ℕ) → a < 16 → is_in a (pair a b) ≡ true
pair_first a b h =
    let same : (a == a) ≡ true = eq-eqb a a refl in
    is_in-with_member 16 a b (with_member 16 [] a) h ∙ here (a == b) (is_in-with_member 16 a a [] h ∙ rw same refl)
  where
    here : (p : Bool) → is_in a (with_member 16 [] a) ≡ true → (p || is_in a (with_member 16 [] a)) ≡ true
    here true e = refl
    here false e = e

-- the second role is in the set
pub pair_second : (a b : ℕ) → b < 16 → is_in b (pair a b) ≡ true
pair_second a b h =
    let same : (b == b) ≡ true = eq-eqb b b refl in
    is_in-with_member 16 b b (with_member 16 [] a) h ∙ rw same refl

-- no other role is in the set
pub pair_only : (a b r : ℕ) → is_in r (pair a b) ≡ true → (r ≡ a) ⊎ (r ≡ b)
pair_only a b r h =
    let small = is_in_past 16 r b (with_member 16 [] a) h in
    let e : ((r == b) || is_in r (with_member 16 [] a)) ≡ true = sym (is_in-with_member 16 r b (with_member 16 [] a) small) ∙ h in
    let e' : is_in r (with_member 16 [] a) ≡ ((r == a) || false) = is_in-with_member 16 r a [] small in
    elim (cases_Bool (r == b)) [
      | inl y ↦ inr (grind (arith, nat_tests, y))
      | inr n ↦ (let f : is_in r (with_member 16 [] a) ≡ true = rw n at e in inl (first (r == a) refl (sym e' ∙ f)))
    ]
  where
    first : (p : Bool) → (r == a) ≡ p → (p || false) ≡ true → r ≡ a
    first true is e = grind (arith, nat_tests, is)
    first false is e = absurd (cc)

-- a walk past no node of the roles to a node of the first leads to it
pub leads_first : (g : Shape) (m a b n : ℕ) (es : List ℕ) → a < 16 → b < 16 → role_at g n ≡ a → LeadsPast g m (pair a b) n es → Leads g m a b es
leads_first g m a b n es ha hb role x = record { walk = x.walk; ends = rw x.ends role; no_a = x.clear a (pair_first a b ha); no_b = x.clear b (pair_second a b hb) }

-- and one to a node of the second leads to that
pub leads_second : (g : Shape) (m a b n : ℕ) (es : List ℕ) → a < 16 → b < 16 → role_at g n ≡ b → LeadsPast g m (pair a b) n es → Leads g m b a es
leads_second g m a b n es ha hb role x = record { walk = x.walk; ends = rw x.ends role; no_a = x.clear b (pair_second a b hb); no_b = x.clear a (pair_first a b ha) }

-- what leads to a node of one of two roles passes no node of them
pub first_leads : (g : Shape) (m a b : ℕ) (es : List ℕ) → Leads g m a b es → LeadsPast g m (pair a b) (end_of g m es) es
first_leads g m a b es x = record { walk = x.walk; ends = refl; clear = λ r h. elim (pair_only a b r h) [ inl e ↦ rw e x.no_a | inr e ↦ rw e x.no_b ] }

pub second_leads : (g : Shape) (m a b : ℕ) (es : List ℕ) → Leads g m b a es → LeadsPast g m (pair a b) (end_of g m es) es
second_leads g m a b es x = record { walk = x.walk; ends = refl; clear = λ r h. elim (pair_only a b r h) [ inl e ↦ rw e x.no_b | inr e ↦ rw e x.no_a ] }
