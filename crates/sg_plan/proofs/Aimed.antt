-- Targets of an edge, found in a closure and kept in sets.
use Rattle.std.proofs.Common.{◌≡◌, ◌≢◌, ℕ, ◌+◌, ◌<◌, ◌≤◌, ◌==◌, eqb, Bool, true, false, List, [], ◌∷◌, ◌++◌, length, get_or, length-append, refl, sym, ◌∙◌, ap, subst, inl, inr, arith, eq-eqb}
use Rattle.std.specs.Prelude.{◌↔◌, Option, Some, None, is_some, IsTrue}
use Rattle.std.proofs.Math.ListN.{get_or-append}
use Rattle.std.proofs.Math.Seq.{get_or-append_seam}
use Rattle.std.proofs.lemmas.Bool.Decides.{nat_tests}
use Rattle.std.proofs.lemmas.List.{get_or_past}
use Rattle.sg_base.specs.Sets.{with_member}
use Rattle.sg_base.proofs.SetLaws.{is_in-with_member}
use Rattle.sg_model.specs.Lists.{is_in}
use Rattle.sg_model.specs.Shape.{end_of, sender, receiver, target}
use Rattle.sg_model.proofs.Small.{same_or_not}
use Rattle.sg_protocol.specs.Graph.{Graph, AreNumbers, shape}
use Rattle.sg_protocol.specs.Targets.{IsTarget, IsTargetTable}
use Rattle.sg_reach.specs.Reaches.{Closure, IsFirstOf}
use Rattle.sg_reach.proofs.Cases.{less_or}
use Rattle.sg_reach.proofs.Pair.{pair, leads_first, first_leads}

-- a role other than sender and receiver is a target exactly if it has a node in the closure of the edge's end past the role and the sender
pub found_target : (g : Graph) (e t : ℕ) (o : Option ℕ) → t < 16 → sender (shape g) e < 16 → t ≢ sender (shape g) e → t ≢ receiver (shape g) e
    → IsFirstOf (record { graph = g; from = target (shape g) e; past = pair t (sender (shape g) e) }) t o → IsTrue (is_some o) ↔ IsTarget (shape g) e t
found_target g e t (Some n) ht hs not_sender not_receiver x = (
  (λ _. record { not_sender = not_sender; not_receiver = not_receiver; walk = x.2.0; leads = leads_first (shape g) (target (shape g) e) t (sender (shape g) e) n x.2.0 ht hs x.1 x.2.1 }),
  (λ _. refl),
)
found_target g e t None ht hs not_sender not_receiver x = (
  (λ h. absurd (cc)),
  (λ y. absurd (x (end_of (shape g) (target (shape g) e) y.walk) y.leads.ends (y.walk, first_leads (shape g) (target (shape g) e) t (sender (shape g) e) y.walk y.leads))),
)

-- a set has the targets below a role: those and no others up to n
pub record IsSetBelow (g : Graph) (e n : ℕ) (set : List ℕ) : Type 0 where
  pub below : (t : ℕ) → t < n → IsTrue (is_in t set) ↔ IsTarget (shape g) e t
  pub above : (t : ℕ) → n ≤ t → t < 16 → is_in t set ≡ false

-- with a role that is a target, the set has those below the next role
pub set_with : (g : Graph) (e n : ℕ) (set : List ℕ) → n < 16 → IsSetBelow g e n set → IsTarget (shape g) e n → IsSetBelow g e (n + 1) (with_member 16 set n)
set_with g e n set small x aimed = record {
  below = λ t h. elim (same_or_not t n) [
    | inl s ↦ ((λ _. subst (IsTarget (shape g) e) (sym s) aimed), (λ _. new t s))
    | inr d ↦ ((λ i. (x.below t (omega arith)).0 (sym (old t d (omega arith)) ∙ i)), (λ y. old t d (omega arith) ∙ (x.below t (omega arith)).1 y))
  ];
  above = λ t h l. old t (λ s. omega arith) l ∙ x.above t (omega arith) l;
}
  where
    new : (t : ℕ) → t ≡ n → is_in t (with_member 16 set n) ≡ true
    new t s =
        let yes : (t == n) ≡ true = eq-eqb t n s in
        is_in-with_member 16 t n set (omega arith) ∙ rw yes refl

    old : (t : ℕ) → t ≢ n → t < 16 → is_in t (with_member 16 set n) ≡ is_in t set
    old t d l =
        let other : (t == n) ≡ false = grind (arith, nat_tests, d) in
        is_in-with_member 16 t n set l ∙ rw other refl

-- without a role that is none, it has those below the next role too
pub set_without : (g : Graph) (e n : ℕ) (set : List ℕ) → n < 16 → IsSetBelow g e n set → (IsTarget (shape g) e n → ⊥) → IsSetBelow g e (n + 1) set
set_without g e n set small x missed = record {
  below = λ t h. elim (same_or_not t n) [
    | inl s ↦ ((λ i. absurd (apart t s i)), (λ y. absurd (missed (subst (IsTarget (shape g) e) s y))))
    | inr d ↦ x.below t (omega arith)
  ];
  above = λ t h l. x.above t (omega arith) l;
}
  where
    apart : (t : ℕ) → t ≡ n → is_in t set ≡ true → ⊥
    apart t s i = (let out : is_in t set ≡ false = x.above t (omega arith) (omega arith) in let e : false ≡ true = sym out ∙ i in cc)

-- numbers that a test doesn't find the same differ
pub differ : (a b : ℕ) (test : Bool) → test ≡ eqb a b → test ≡ false → a ≢ b
differ a b test is fails e = (let yes : eqb a b ≡ true = eq-eqb a b e in let wrong : false ≡ true = sym fails ∙ is ∙ yes in cc)

-- what the code finds in the closure says whether the role is a target
pub target_listed : (g : Graph) (e t s to : ℕ) (set : List ℕ) (k : Closure) (o : Option ℕ) (r : Bool) → s ≡ sender (shape g) e → to ≡ target (shape g) e → set ≡ pair t s
    → k ≡ record { graph = g; from = to; past = set } → t < 16 → s < 16 → t ≢ s → t ≢ receiver (shape g) e → IsFirstOf k t o → r ≡ is_some o → IsTrue r ↔ IsTarget (shape g) e t
target_listed g e t s to set k o r sends leads sets closes ht hs not_sender not_receiver first listed =
    let set' : set ≡ pair t (sender (shape g) e) = sets ∙ ap (pair t) sends in
    let k' : k ≡ record { graph = g; from = target (shape g) e; past = pair t (sender (shape g) e) } = closes ∙ (λ i. record { graph = g; from = leads i; past = set' i }) in
    let at_sender : t ≢ sender (shape g) e = λ q. not_sender (q ∙ sym sends) in
    let small : sender (shape g) e < 16 = subst (λ x. x < 16) sends hs in
    let found = found_target g e t o ht small at_sender not_receiver (subst (λ (x : Closure). IsFirstOf x t o) k' first) in
    ((λ h. found.0 (sym listed ∙ h)), (λ y. listed ∙ found.1 y))

-- the sets of the edges below n are those of their targets
pub record AreSetsBelow (g : Graph) (n : ℕ) (sets : List (List ℕ)) : Type 0 where
  pub size : length sets ≡ n
  pub rising : (e : ℕ) → e < n → AreNumbers (length g.roles) (get_or sets e [])
  pub each : (e t : ℕ) → e < n → t < length g.roles → IsTrue (is_in t (get_or sets e [])) ↔ IsTarget (shape g) e t

-- with the targets of the next edge, they are those of the edges below the one after it
pub sets_with : (g : Graph) (n : ℕ) (sets more : List (List ℕ)) (set : List ℕ) → more ≡ sets ++ set ∷ [] → AreSetsBelow g n sets → AreNumbers (length g.roles) set
    → ((t : ℕ) → t < length g.roles → IsTrue (is_in t set) ↔ IsTarget (shape g) n t) → AreSetsBelow g (n + 1) more
sets_with g n sets more set grown x numbers aims = record {
  size = ap length grown ∙ length-append sets (set ∷ []) ∙ ap (λ k. k + 1) x.size;
  rising = λ e h. elim (same_or_not e n) [ inl s ↦ rw (here e s) numbers | inr d ↦ rw (there e (omega arith)) (x.rising e (omega arith)) ];
  each = λ e t h l. elim (same_or_not e n) [ inl s ↦ rw (here e s, s) (aims t l) | inr d ↦ rw (there e (omega arith)) (x.each e t (omega arith) l) ];
}
  where
    here : (e : ℕ) → e ≡ n → get_or more e [] ≡ set
    here e s = ap (λ xs. get_or xs e []) grown ∙ ap (λ i. get_or (sets ++ set ∷ []) i []) (s ∙ sym x.size) ∙ get_or-append_seam sets set [] []

    there : (e : ℕ) → e < n → get_or more e [] ≡ get_or sets e []
    there e l = ap (λ xs. get_or xs e []) grown ∙ get_or-append sets (set ∷ []) [] e (omega (arith, x.size))

-- the sets of all edges are the table
pub whole_table : (g : Graph) (n : ℕ) (sets : List (List ℕ)) → n ≡ length g.edges → AreSetsBelow g n sets → IsTargetTable g sets
whole_table g n sets all x = record {
  size = x.size ∙ all;
  rising = λ e. elim (less_or e n) [ inl l ↦ x.rising e l | inr past ↦ rw (get_or_past sets e [] (omega (arith, x.size, past))) refl ];
  each = λ e t h l. x.each e t (omega (arith, h, all)) l;
}
