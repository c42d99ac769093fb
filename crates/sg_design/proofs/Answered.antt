-- A claim holds of a graph, or a first walk breaks it.
use Rattle.std.proofs.Common.{◌≡◌, ℕ, zero, suc, ◌<◌, ◌⊎◌, inl, inr, Bool, true, false, not, ◌&&◌, List, [], ◌∷◌, ◌++◌, length, Option, Some, None, is_none, refl, sym, ◌∙◌, subst, arith, append-nil, append_assoc}
use Rattle.std.proofs.lemmas.Bool.{cases_lt}
use Rattle.sg_claims.specs.Breaks.{AreInOrder, Breaks, IsFirstBreak}
use Rattle.sg_claims.specs.declared.claim.NamedClaim.{NamedClaim}
use Rattle.sg_compile.specs.Laws.{Surely}
use Rattle.sg_compile.proofs.Sure.{least, or_not, so, sure}
use Rattle.sg_model.specs.Claims.{Claim, IsBroken, right_bit}
use Rattle.sg_model.specs.Shape.{Shape}
use Rattle.sg_model.proofs.OneBit.{bits_decide, right_to}
use Rattle.sg_model.proofs.Walks.{walk_join}
use Rattle.sg_protocol.specs.Graph.{Graph, shape}
use Rattle.sg_design.specs.Claimed.{AreAnswered, IsAgainst, OneMore, answer_line}

-- ---- the first of some lists

-- if there is a list of this length, there is a first one, when numbers are compared from the front
first_of : (n : ℕ) (P : List ℕ → Type 0) → (xs : List ℕ) → length xs ≡ n → P xs
    → Surely ((first : List ℕ) × (length first ≡ n) × P first × ((other : List ℕ) → length other ≡ n → P other → AreInOrder first other))
first_of zero P [] l p = sure ([], refl, p, λ other m q. tt)
first_of zero P (x ∷ xs) l p = absurd (omega (arith, l))
first_of (suc n) P [] l p = absurd (omega (arith, l))
first_of (suc n) P (x ∷ xs) l p =
    so (least (λ y. (ys : List ℕ) × (length ys ≡ n) × P (y ∷ ys)))
    (λ a. elim a [
      | inl none ↦ absurd (none x (xs, omega (arith, l), p))
      | inr m ↦
          (let rest = (m.1).here in
          so (first_of n (λ ys. P (m.0 ∷ ys)) rest.0 rest.1 rest.2)
          (λ f. sure (m.0 ∷ f.0, (let size = f.1 in omega (arith, size)), f.2, before m.0 f.0 (m.1).none_below f.3)))
    ])
  where
    before : (y : ℕ) (ys : List ℕ) → ((k : ℕ) → k < y → ((zs : List ℕ) × (length zs ≡ n) × P (k ∷ zs)) → ⊥) → ((zs : List ℕ) → length zs ≡ n → P (y ∷ zs) → AreInOrder ys zs)
        → (other : List ℕ) → length other ≡ suc n → P other → AreInOrder (y ∷ ys) other
    before y ys none firsts [] size q = absurd (omega (arith, size))
    before y ys none firsts (z ∷ zs) size q =
        elim (cases_lt y z) [
          | inl less ↦ inl less
          | inr le ↦ elim (cases_lt z y) [
            | inl less ↦ absurd (none z less (zs, omega (arith, size), q))
            | inr ge ↦ (let same : z ≡ y = omega (arith, le, ge) in inr (sym same, firsts zs (omega (arith, size)) (subst (λ k. P (k ∷ zs)) same q)))
          ]
        ]

-- ---- a claim

module _ (g : Shape) (c : Claim) where
  -- what breaks a claim is a walk on which it doesn't hold
  broken_breaks : IsBroken g c → (walk : List ℕ) × Breaks g c walk
  broken_breaks b =
      let r = b.reached in (
        r.walk ++ b.label ∷ [],
        record {
          follows = walk_join g 0 r.walk (b.label ∷ []) r.follows (b.is_edge, b.leaves ∙ sym r.ends, tt);
          before = r.walk;
          label = b.label;
          there = refl;
          is_later = b.is_later;
          wrong = λ right. not_both (right_bit c.kind) (sym (right_to c.kind c.later c.earlier c.since r.walk right) ∙ r.has_bit);
        },
      )
    where
      not_both : (right : Bool) → right ≡ not right → ⊥
      not_both true e = cc
      not_both false e = cc

  first_break : (walk : List ℕ) → Breaks g c walk → Surely ((first : List ℕ) × IsFirstBreak g c first)
  first_break walk breaks =
      so (least (λ n. (other : List ℕ) × (length other ≡ n) × Breaks g c other))
      (λ a. elim a [
        | inl none ↦ absurd (none (length walk) (walk, refl, breaks))
        | inr m ↦
            (let some = (m.1).here in
            so (first_of m.0 (Breaks g c) some.0 some.1 some.2)
            (λ f. sure (f.0, record { breaks = f.2; first = λ other h. order m.0 f.0 f.1 (m.1).none_below f.3 other h })))
      ])
    where
      order : (n : ℕ) (first : List ℕ) → length first ≡ n → ((k : ℕ) → k < n → ((other : List ℕ) × (length other ≡ k) × Breaks g c other) → ⊥)
          → ((other : List ℕ) → length other ≡ n → Breaks g c other → AreInOrder first other) → (other : List ℕ) → Breaks g c other
          → (length first < length other) ⊎ ((length first ≡ length other) × AreInOrder first other)
      order n first size none firsts other h =
          elim (cases_lt n (length other)) [
            | inl less ↦ inl (omega (arith, size, less))
            | inr le ↦ elim (cases_lt (length other) n) [
              | inl less ↦ absurd (none (length other) less (other, refl, h))
              | inr ge ↦ (let same : length other ≡ n = omega (arith, le, ge) in inr (size ∙ sym same, firsts other same h))
            ]
          ]

-- a claim holds, or a first walk breaks it
answer : (g : Graph) (c : NamedClaim) → Surely ((against : Option (List ℕ)) × IsAgainst g c against)
answer g c =
    so (or_not (IsBroken (shape g) c.claim))
    (λ b. elim b [
      | inr whole ↦ sure (None, (bits_decide (shape g) c.claim).1 whole)
      | inl broken ↦
          (let some = broken_breaks (shape g) c.claim broken in
          so (first_break (shape g) c.claim some.0 some.1) (λ f. sure (Some f.0, f.1)))
    ])

-- so do all claims
pub answers : (g : Graph) (cs done : List NamedClaim) (text : List ℕ) (all : Bool) → AreAnswered g done text all → Surely ((whole : List ℕ) × (hold : Bool) × AreAnswered g (done ++ cs) whole hold)
answers g [] done text all h = sure (text, all, subst (λ ds. AreAnswered g ds text all) (sym (append-nil done)) h)
answers g (c ∷ cs) done text all h =
    so (answer g c)
    (λ a. so (answers g cs (done ++ c ∷ []) (text ++ answer_line g c a.0) (all && is_none a.0) (OneMore c a.0 h a.1))
    (λ w. sure (w.0, w.1, subst (λ ds. AreAnswered g ds w.0 w.1) (append_assoc done (c ∷ []) cs) w.2)))
