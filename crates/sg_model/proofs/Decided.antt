-- A claim is confined or broken: which nodes are reached with which bit is computed, edge by edge.
use Rattle.std.specs.Prelude.{◌≡◌, ℕ, zero, suc, ◌<◌, ◌==◌, Bool, true, false, not, ◌&&◌, ◌||◌, List, [], ◌∷◌, ◌++◌, length, ◌⊎◌, refl}
use Rattle.std.specs.List.{AllByRecursion}
use Rattle.std.specs.Bool.{beq}
use Rattle.std.proofs.Common.{◌∙◌, sym, ap, subst, inl, inr, arith}
use Rattle.std.proofs.lemmas.Bool.{cases_Bool, and_parts, or_left, or_right, eqb-true}
use Rattle.sg_model.specs.Lists.{is_in}
use Rattle.sg_model.specs.Shape.{Shape, source, target}
use Rattle.sg_model.specs.Claims.{Claim, bit_after, right_bit, IsReached, IsBroken, Confined}
use Rattle.sg_model.proofs.Small.{clash, upto, same_number}
use Rattle.sg_model.proofs.Walks.{walk_join, end_of-append}
use Rattle.sg_model.proofs.OneBit.{bit-append, right_or}

-- a node with a bit, and a step from one to another
abbrev State : Type 0
State = ℕ × Bool

abbrev same : State → State → Bool
same s t = (s.0 == t.0) && beq s.1 t.1

-- from s the steps lead to t: without the first step, or by it
abbrev leads : List (State × State) → State → State → Bool
leads [] s t = same s t
leads (x ∷ xs) s t = leads xs s t || (leads xs s x.0 && leads xs x.1 t)

abbrev In : List (State × State) → State × State → Type 0
In [] x = ⊥
In (y ∷ ys) x = (y ≡ x) ⊎ In ys x

same_refl : (s : State) → same s s ≡ true
same_refl s = go s.0 s.1
  where
    go : (n : ℕ) (b : Bool) → ((n == n) && beq b b) ≡ true
    go n true = ap (λ z. z && true) (same_number n n refl)
    go n false = ap (λ z. z && true) (same_number n n refl)

same_is : (P : ℕ → Bool → Type 0) (n : ℕ) (b : Bool) (m : ℕ) (d : Bool) → ((n == m) && beq b d) ≡ true → P n b → P m d
same_is P n b m d e p = let q = and_parts (n == m) (beq b d) e in subst (λ z. P z d) (eqb-true n m q.0) (subst (λ z. P n z) (bits b d q.1) p)
  where
    bits : (b d : Bool) → beq b d ≡ true → b ≡ d
    bits true true q = refl
    bits false false q = refl
    bits true false q = absurd (cc)
    bits false true q = absurd (cc)

leads_refl : (xs : List (State × State)) (s : State) → leads xs s s ≡ true
leads_refl [] s = same_refl s
leads_refl (x ∷ xs) s = or_left _ _ (leads_refl xs s)

either : {A : Type 0} (a b : Bool) → (a || b) ≡ true → (a ≡ true → A) → (b ≡ true → A) → A
either true b e f k = f refl
either false b e f k = k e

both : (a b : Bool) → a ≡ true → b ≡ true → (a && b) ≡ true
both a b e f = ap (λ z. z && b) e ∙ f

-- where the steps lead, each of them leads on
leads_on : (xs : List (State × State)) (s : State) (x : State × State) → In xs x → leads xs s x.0 ≡ true → leads xs s x.1 ≡ true
leads_on [] s x i e = absurd i
leads_on (y ∷ ys) s x (inl i) e =
    let there : leads ys s y.0 ≡ true = either (leads ys s x.0) (leads ys s y.0 && leads ys y.1 x.0) e (λ a. subst (λ z. leads ys s z.0 ≡ true) (sym i) a) (λ b. (and_parts (leads ys s y.0) (leads ys y.1 x.0) b).0) in
    subst (λ z. (leads ys s z.1 || (leads ys s y.0 && leads ys y.1 z.1)) ≡ true) i (or_right (leads ys s y.1) (leads ys s y.0 && leads ys y.1 y.1) (both (leads ys s y.0) (leads ys y.1 y.1) there (leads_refl ys y.1)))
leads_on (y ∷ ys) s x (inr i) e = either (leads ys s x.0) (leads ys s y.0 && leads ys y.1 x.0) e
    (λ a. or_left _ _ (leads_on ys s x i a))
    (λ b. let q = and_parts (leads ys s y.0) (leads ys y.1 x.0) b in or_right (leads ys s x.1) (leads ys s y.0 && leads ys y.1 x.1) (both (leads ys s y.0) (leads ys y.1 x.1) q.0 (leads_on ys y.1 x i q.1)))

-- what each step keeps holds wherever the steps lead
leads_keeps : (P : ℕ → Bool → Type 0) (xs : List (State × State)) → AllByRecursion (λ (x : State × State). P (x.0).0 (x.0).1 → P (x.1).0 (x.1).1) xs → (s t : State) → leads xs s t ≡ true → P s.0 s.1 → P t.0 t.1
leads_keeps P [] all s t e p = same_is P s.0 s.1 t.0 t.1 e p
leads_keeps P (x ∷ xs) all s t e p = either (leads xs s t) (leads xs s x.0 && leads xs x.1 t) e
    (λ a. leads_keeps P xs all.1 s t a p)
    (λ b. let q = and_parts (leads xs s x.0) (leads xs x.1 t) b in leads_keeps P xs all.1 x.1 t q.1 (all.0 (leads_keeps P xs all.1 s x.0 q.0 p)))

-- a number below k passes, or none does
search_below : (p : ℕ → Bool) (k : ℕ) → ((e : ℕ) → e < k → p e ≡ false) ⊎ ((e : ℕ) × (e < k) × (p e ≡ true))
search_below p zero = inl (λ e l. absurd (omega (arith, l)))
search_below p (suc k) = elim (search_below p k) [
  | inr r ↦ inr (r.0, (let l = r.1 in omega (arith, l)), r.2)
  | inl none ↦ elim (cases_Bool (p k)) [
    | inl y ↦ inr (k, omega arith, y)
    | inr n ↦ inl (λ e l. elim (upto e k (omega (arith, l))) [ inl m ↦ none e m | inr q ↦ subst (λ z. p z ≡ false) (sym q) n ])
  ]
]

module _ (g : Shape) (c : Claim) where
  -- the step along an edge with a bit
  abbrev along : ℕ → Bool → State × State
  along e bit = ((source g e, bit), (target g e, bit_after c bit e))

  abbrev along_all : ℕ → List (State × State)
  along_all zero = []
  along_all (suc k) = along k true ∷ along k false ∷ along_all k

  is_along : (k e : ℕ) (bit : Bool) → e < k → In (along_all k) (along e bit)
  is_along zero e bit l = absurd (omega (arith, l))
  is_along (suc k) e bit l = elim (upto e k (omega (arith, l))) [
    | inl m ↦ inr (inr (is_along k e bit m))
    | inr q ↦ here bit q
  ]
    where
      here : (bit : Bool) → e ≡ k → In (along_all (suc k)) (along e bit)
      here true q = inl (ap (λ z. along z true) (sym q))
      here false q = inr (inl (ap (λ z. along z false) (sym q)))

  -- an edge leads on from what is reached
  goes_on : (e : ℕ) (bit : Bool) → e < length g.edges → IsReached g c (source g e) bit → IsReached g c (target g e) (bit_after c bit e)
  goes_on e bit l r = record {
    walk = r.walk ++ e ∷ [];
    follows = walk_join g 0 r.walk (e ∷ []) r.follows (l, sym r.ends, tt);
    ends = end_of-append g 0 r.walk (e ∷ []);
    has_bit = bit-append c false r.walk (e ∷ []) ∙ ap (λ b. bit_after c b e) r.has_bit;
  }

  all_go_on : (k : ℕ) → ((e : ℕ) → e < k → e < length g.edges) → AllByRecursion (λ (x : State × State). IsReached g c (x.0).0 (x.0).1 → IsReached g c (x.1).0 (x.1).1) (along_all k)
  all_go_on zero f = tt
  all_go_on (suc k) f = (goes_on k true (f k (omega arith)), (goes_on k false (f k (omega arith)), all_go_on k (λ e l. f e (omega (arith, l)))))

  abbrev come_to : ℕ → Bool → Bool
  come_to n bit = leads (along_all (length g.edges)) (0, false) (n, bit)

  reached : (n : ℕ) (bit : Bool) → come_to n bit ≡ true → IsReached g c n bit
  reached n bit e = leads_keeps (λ n bit. IsReached g c n bit) (along_all (length g.edges)) (all_go_on (length g.edges) (λ e l. l)) (0, false) (n, bit) e record { walk = []; follows = tt; ends = refl; has_bit = refl }

  -- a claim is confined or broken
  pub confined_or_broken : Confined g c ⊎ IsBroken g c
  confined_or_broken = elim (search_below (λ e. is_in e c.later && come_to (source g e) (not (right_bit c.kind))) (length g.edges)) [
    | inl none ↦ inl record {
      within = come_to;
      begins = leads_refl (along_all (length g.edges)) (0, false);
      closed = λ e bit l w. leads_on (along_all (length g.edges)) (0, false) (along e bit) (is_along (length g.edges) e bit l) w;
      right = λ e bit l w i. elim (right_or bit (right_bit c.kind)) [
        | inl y ↦ y
        | inr z ↦ clash _ (both (is_in e c.later) (come_to (source g e) (not (right_bit c.kind))) i (subst (λ b. come_to (source g e) b ≡ true) z w)) (none e l)
      ];
    }
    | inr r ↦ (let q = and_parts (is_in r.0 c.later) (come_to (source g r.0) (not (right_bit c.kind))) r.2 in inr record {
      node = source g r.0;
      reached = reached (source g r.0) (not (right_bit c.kind)) q.1;
      label = r.0;
      is_edge = r.1;
      leaves = refl;
      is_later = q.0;
    })
  ]
