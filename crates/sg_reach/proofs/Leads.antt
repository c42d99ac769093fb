-- Walks past no node of some roles.
use Rattle.std.proofs.Common.{◌≡◌, ℕ, ◌<◌, ◌==◌, Bool, true, false, ◌||◌, List, [], ◌∷◌, length, refl, inl, inr, arith, eq-eqb}
use Rattle.std.proofs.lemmas.Bool.Decides.{nat_tests}
use Rattle.std.proofs.lemmas.Bool.{cases_Bool}
use Rattle.sg_model.specs.Last.{has}
use Rattle.sg_model.specs.Lists.{is_in}
use Rattle.sg_model.specs.Shape.{Shape, source, target, sender}
use Rattle.sg_model.proofs.Small.{second_false}
use Rattle.sg_reach.specs.Reaches.{LeadsPast}

-- two roles of which one is in a list and the other isn't differ
pub roles_differ : (r s : ℕ) (past : List ℕ) → is_in r past ≡ true → is_in s past ≡ false → (s == r) ≡ false
roles_differ r s past here gone =
    elim (cases_Bool (s == r)) [
      | inl y ↦ (let same : s ≡ r = grind (arith, nat_tests, y) in let e : is_in r past ≡ false = rw same at gone in absurd (cc))
      | inr n ↦ n
    ]

-- no labels lead from a node to itself
pub leads_nowhere : (g : Shape) (m : ℕ) (past : List ℕ) → LeadsPast g m past m []
leads_nowhere g m past = record { walk = tt; ends = refl; clear = λ r h. refl }

-- an edge that leaves a node of another role, and then what leads on from its target
pub leads_by : (g : Shape) (past : List ℕ) (n e : ℕ) (es : List ℕ) → e < length g.edges → is_in (sender g e) past ≡ false → LeadsPast g (target g e) past n es → LeadsPast g (source g e) past n (e ∷ es)
leads_by g past n e es l free x =
    record { walk = (l, refl, x.walk); ends = x.ends; clear = λ r h. rw (roles_differ r (sender g e) past h free) (x.clear r h) }

-- a first edge that leads past no node of the roles leaves none of them
pub first_free : (g : Shape) (m : ℕ) (past : List ℕ) (n e : ℕ) (es : List ℕ) → LeadsPast g m past n (e ∷ es) → is_in (sender g e) past ≡ false
first_free g m past n e es x =
    elim (cases_Bool (is_in (sender g e) past)) [
      | inl y ↦
          (let none : ((sender g e == sender g e) || has (sender g) (sender g e) es) ≡ false = x.clear (sender g e) y in
          let same : (sender g e == sender g e) ≡ true = eq-eqb (sender g e) (sender g e) refl in
          let e' : true ≡ false = rw same at none in absurd (cc))
      | inr z ↦ z
    ]

-- and the other edges lead on from its target
pub first_off : (g : Shape) (m : ℕ) (past : List ℕ) (n e : ℕ) (es : List ℕ) → LeadsPast g m past n (e ∷ es) → LeadsPast g (target g e) past n es
first_off g m past n e es x =
    record { walk = x.walk.2; ends = x.ends; clear = λ r h. second_false (sender g e == r) (has (sender g) r es) (x.clear r h) }
