-- Bad reads, and which of them comes first.
use Rattle.std.proofs.Common.{◌≡◌, ◌⊎◌, ℕ, ◌+◌, ◌<◌, ◌≤◌, ◌==◌, nat_lt, nat_le, true, false, ◌&&◌, List, [], ◌∷◌, ◌++◌, length, refl, sym, ap, ◌∙◌, subst, inl, inr, arith}
use Rattle.std.specs.Prelude.{Option, Some, None}
use Rattle.std.proofs.lemmas.Bool.{cases_Bool, cases_lt, or_parts, and_cases, or_cases, and_parts, ltb-true, ltb-false, leb-true, leb-false, eqb-true, eqb-false}
use Rattle.std.proofs.lemmas.List.{length-map}
use Rattle.sg_model.specs.Last.{last, last_or}
use Rattle.sg_model.specs.Lists.{is_in}
use Rattle.sg_model.specs.Shape.{Walk, end_of, source, sender}
use Rattle.sg_protocol.specs.Graph.{Graph, shape, reads}
use Rattle.sg_protocol.specs.Knowledge.{knows}
use Rattle.sg_know.specs.declared.bad.BadRead.{BadRead as Found}
use Rattle.sg_know.specs.declared.states.WalkState.{WalkState}
use Rattle.sg_know.specs.declared.states.ReachedState.{ReachedState}
use Rattle.sg_know.specs.Reads.{HasBadRead, IsBadRead, IsUpTo}
use Rattle.sg_know.specs.Parts.{IsBadOf, IsBadOfVar, IsFirstBad, earlier, is_up_to}
use Rattle.sg_know.specs.States.{IsClosure, IsPath, IsUnknownRead, is_known, state_after, state_along, state_at}
use Rattle.sg_know.proofs.Knowing.{knows_as, state_after-more}
use Rattle.sg_know.proofs.Bounds.{read_there}
use Rattle.sg_know.proofs.Reaching.{path_walks, walk_before, walk_more, walk_next}

-- ---- the last edge

-- the last of a list that ends with e
pub last-more : (xs : List ℕ) (e : ℕ) → last (xs ++ e ∷ []) ≡ Some e
last-more [] e = refl
last-more (x ∷ xs) e = ap Some (deep x xs)
  where
    deep : (x : ℕ) (xs : List ℕ) → last_or x (xs ++ e ∷ []) ≡ e
    deep x [] = refl
    deep x (y ∷ ys) = deep y ys

-- a list with a last element is what stands before it, and it
pub last_split : (xs : List ℕ) (e : ℕ) → last xs ≡ Some e → (before : List ℕ) × (xs ≡ before ++ e ∷ [])
last_split [] e h = absurd (cc)
last_split (x ∷ xs) e h = let same : last_or x xs ≡ e = cc in deep x xs same
  where
    deep : (x : ℕ) (xs : List ℕ) → last_or x xs ≡ e → (before : List ℕ) × (x ∷ xs ≡ before ++ e ∷ [])
    deep x [] s = ([], ap (λ y. y ∷ []) s)
    deep x (y ∷ ys) s = let rest = deep y ys s in (x ∷ rest.0, ap (λ l. x ∷ l) rest.1)

-- ---- bad reads and states

-- a bad read leaves a state of the closure
pub bad_unknown : (g : Graph) (r x : ℕ) (states : List ReachedState) → IsClosure g r x states → (e y : ℕ) → IsBadOf g r x e y → (i : ℕ) × IsUnknownRead g r x states e i
bad_unknown g r x states h e y b =
    let walk = b.0.0 in
    let bad : IsBadRead g e x walk = subst (λ z. IsBadRead g e z walk) b.2 b.0.1 in
    let split = last_split walk e bad.last_edge in
    let before = split.0 in
    let whole = subst (Walk (shape g) 0) split.1 bad.from_start in
    let there = h.whole before (walk_before (shape g) 0 e before whole) in
    let leaves = walk_next (shape g) 0 e before [] whole in
    let along : state_along g r x e (state_at states there.0) ≡ state_after g r x (before ++ e ∷ []) = ap (state_along g r x e) there.2 ∙ sym (state_after-more g r x e before) in
    let unknown : is_known (state_along g r x e (state_at states there.0)).mark ≡ false =
    ap (λ (s : WalkState). is_known s.mark) along ∙ sym (knows_as g r x (before ++ e ∷ [])) ∙ ap (knows g r x) (sym split.1) ∙ ap (λ q. knows g q x walk) (sym b.1) ∙ bad.unknown in
    (there.0, (read_there g e x bad.is_read, b.1, bad.is_read, (there.1, ap (λ (s : WalkState). s.node) there.2 ∙ sym leaves.1, unknown)))

-- a state of the closure after which a read isn't known gives a bad read, on the walk that leads there
pub unknown_bad : (g : Graph) (r x : ℕ) (states : List ReachedState) → IsClosure g r x states → (e i : ℕ) → IsUnknownRead g r x states e i
    → (before : List ℕ) → IsPath states i before → IsBadRead g e x (before ++ e ∷ [])
unknown_bad g r x states h e i u before p =
    let after = u.3 in
    let walks = path_walks g r x states h.reached i before after.0 p in
    let leaves : source (shape g) e ≡ end_of (shape g) 0 before = sym after.1 ∙ ap (λ (s : WalkState). s.node) (sym walks.1) in
    let there : e < length (shape g).edges = rw length-map u.0 in
    record {
      from_start = walk_more (shape g) 0 e before walks.0 there leaves;
      last_edge = last-more before e;
      is_read = u.2;
      unknown = ap (λ q. knows g q x (before ++ e ∷ [])) u.1 ∙ knows_as g r x (before ++ e ∷ []) ∙ ap (λ (s : WalkState). is_known s.mark) (state_after-more g r x e before ∙ ap (state_along g r x e) walks.1) ∙ after.2;
    }

-- ---- the least position

-- one index up to another, and that up to a third
IsUpTo-through : (e x f y k z : ℕ) → IsUpTo e x f y → IsUpTo f y k z → IsUpTo e x k z
IsUpTo-through e x f y k z (inl a) (inl b) = inl (omega arith)
IsUpTo-through e x f y k z (inl a) (inr b) = inl (omega (arith, b.0))
IsUpTo-through e x f y k z (inr a) (inl b) = inl (omega (arith, a.0))
IsUpTo-through e x f y k z (inr a) (inr b) = inr (a.0 ∙ b.0, omega (arith, a.1, b.1))

-- the test says which of two indices comes first
up_to_yes : (a b : Found) → is_up_to a b ≡ true → IsUpTo a.label a.var b.label b.var
up_to_yes a b h =
    elim (or_cases (nat_lt a.label b.label) ((a.label == b.label) && nat_le a.var b.var) h) [
      | inl l ↦ inl (ltb-true a.label b.label l)
      | inr s ↦ (let parts = and_parts (a.label == b.label) (nat_le a.var b.var) s in inr (eqb-true a.label b.label parts.0, leb-true a.var b.var parts.1))
    ]

up_to_no : (a b : Found) → is_up_to a b ≡ false → IsUpTo b.label b.var a.label a.var
up_to_no a b h =
    let parts = or_parts (nat_lt a.label b.label) ((a.label == b.label) && nat_le a.var b.var) h in
    let le = ltb-false a.label b.label parts.0 in
    elim (and_cases (a.label == b.label) (nat_le a.var b.var) parts.1) [
      | inl d ↦ (let other = eqb-false a.label b.label d in inl (omega (arith, le, other)))
      | inr s ↦ (let less = leb-false a.var b.var s in elim (cases_Bool (a.label == b.label)) [
        | inl e ↦ (let same = eqb-true a.label b.label e in inr (sym same, omega (arith, less)))
        | inr d ↦ (let other = eqb-false a.label b.label d in inl (omega (arith, le, other)))
      ])
    ]

-- the unknown read with the least label gives the first bad read of its variable by its role
pub first_bad : (g : Graph) (r x : ℕ) (states : List ReachedState) (e i : ℕ) (before walk : List ℕ) → IsClosure g r x states → IsUnknownRead g r x states e i
    → ((f j : ℕ) → IsUnknownRead g r x states f j → e ≤ f) → IsPath states i before → walk ≡ before ++ e ∷ [] → IsFirstBad g (IsBadOf g r x) (Some (record { label = e; var = x; walk = walk }))
first_bad g r x states e i before walk h u least p is = ((((walk, bad), u.1, refl), each), bad)
  where
    bad : IsBadRead g e x walk
    bad = subst (IsBadRead g e x) (sym is) (unknown_bad g r x states h e i u before p)

    each : (f y : ℕ) → IsBadOf g r x f y → IsUpTo e x f y
    each f y b =
        let v = bad_unknown g r x states h f y b in
        let le = least f v.0 v.1 in
        elim (cases_lt e f) [ inl l ↦ inl l | inr l ↦ inr (omega arith, omega (arith, b.2)) ]

-- the first of one kind of indices, if another kind has the same indices
pub IsFirstBad-same : (g : Graph) (P Q : ℕ → ℕ → Type 0) (found : Option Found) → ((e x : ℕ) → P e x → Q e x) → ((e x : ℕ) → Q e x → P e x) → IsFirstBad g P found → IsFirstBad g Q found
IsFirstBad-same g P Q None to from h = λ e x q. h e x (from e x q)
IsFirstBad-same g P Q (Some b) to from h = ((to b.label b.var h.0.0, λ f y q. h.0.1 f y (from f y q)), h.1)

-- the first of two kinds of indices is the earlier one of the first of each kind
pub IsFirstBad-earlier : (g : Graph) (P Q R : ℕ → ℕ → Type 0) (a b : Option Found) → ((e x : ℕ) → R e x → P e x ⊎ Q e x) → ((e x : ℕ) → P e x → R e x) → ((e x : ℕ) → Q e x → R e x)
    → IsFirstBad g P a → IsFirstBad g Q b → IsFirstBad g R (earlier a b)
IsFirstBad-earlier g P Q R None None split p q h k = λ e x r. elim (split e x r) [ inl y ↦ h e x y | inr y ↦ k e x y ]
IsFirstBad-earlier g P Q R None (Some b) split p q h k = ((q b.label b.var k.0.0, λ f y r. elim (split f y r) [ inl z ↦ absurd (h f y z) | inr z ↦ k.0.1 f y z ]), k.1)
IsFirstBad-earlier g P Q R (Some a) None split p q h k = ((p a.label a.var h.0.0, λ f y r. elim (split f y r) [ inl z ↦ h.0.1 f y z | inr z ↦ absurd (k f y z) ]), h.1)
IsFirstBad-earlier g P Q R (Some a) (Some b) split p q h k =
    elim (cases_Bool (is_up_to a b)) [
      | inl so ↦ (let up = up_to_yes a b so in
          rw so ((p a.label a.var h.0.0, λ f y r. elim (split f y r) [ inl z ↦ h.0.1 f y z | inr z ↦ IsUpTo-through a.label a.var b.label b.var f y up (k.0.1 f y z) ]), h.1))
      | inr away ↦ (let up = up_to_no a b away in
          rw away ((q b.label b.var k.0.0, λ f y r. elim (split f y r) [ inl z ↦ IsUpTo-through b.label b.var a.label a.var f y up (h.0.1 f y z) | inr z ↦ k.0.1 f y z ]), k.1))
    ]

-- ---- indices below a bound that grows

-- bad reads of variables below n + 1 are those of variables below n and those of n
pub more_vars : (g : Graph) (n : ℕ) (a b c : Option Found) → c ≡ earlier a b → IsFirstBad g (λ e y. HasBadRead g e y × (y < n)) a → IsFirstBad g (IsBadOfVar g n) b
    → IsFirstBad g (λ e y. HasBadRead g e y × (y < n + 1)) c
more_vars g n a b c is h k =
    rw is (IsFirstBad-earlier g (λ e y. HasBadRead g e y × (y < n)) (IsBadOfVar g n) (λ e y. HasBadRead g e y × (y < n + 1)) a b
    (λ e y r. elim (cases_lt y n) [ inl l ↦ inl (r.0, l) | inr l ↦ inr (r.0, omega (arith, r.1)) ])
    (λ e y p. (p.0, omega (arith, p.1)))
    (λ e y q. (q.0, omega (arith, q.1)))
    h k)

-- bad reads of x by roles below n
abbrev pub IsBadBelow : Graph → ℕ → ℕ → ℕ → ℕ → Type 0
IsBadBelow g x n e y = HasBadRead g e y × (y ≡ x) × (sender (shape g) e < n)

-- those by roles below n + 1 are those by roles below n and those by n
pub more_roles : (g : Graph) (x n : ℕ) (a b c : Option Found) → c ≡ earlier a b → IsFirstBad g (IsBadBelow g x n) a → IsFirstBad g (IsBadOf g n x) b → IsFirstBad g (IsBadBelow g x (n + 1)) c
more_roles g x n a b c is h k =
    rw is (IsFirstBad-earlier g (IsBadBelow g x n) (IsBadOf g n x) (IsBadBelow g x (n + 1)) a b
    (λ e y r. elim (cases_lt (sender (shape g) e) n) [ inl l ↦ inl (r.0, r.1, l) | inr l ↦ inr (r.0, omega (arith, r.2), r.1) ])
    (λ e y p. (p.0, p.1, omega (arith, p.2)))
    (λ e y q. (q.0, q.2, omega (arith, q.1)))
    h k)

-- a role that sends along no edge that reads x adds none
pub same_roles : (g : Graph) (x n : ℕ) (a : Option Found) → ((e : ℕ) → is_in x (reads g e) ≡ true → sender (shape g) e ≡ n → ⊥) → IsFirstBad g (IsBadBelow g x n) a → IsFirstBad g (IsBadBelow g x (n + 1)) a
same_roles g x n a away h =
    IsFirstBad-same g (IsBadBelow g x n) (IsBadBelow g x (n + 1)) a (λ e y p. (p.0, p.1, omega (arith, p.2)))
    (λ e y q. (let read : is_in x (reads g e) ≡ true = subst (λ (z : ℕ). is_in z (reads g e) ≡ true) q.1 q.0.1.is_read in let other = away e read in (q.0, q.1, omega (arith, q.2, other)))) h
