-- The table of choices: what stands in the queue of each node.
use Rattle.std.proofs.Common.{◌≡◌, ℕ, ◌-◌, ◌==◌, nat_lt, Bool, true, false, ◌&&◌, inl, inr, arith, List, [], ◌∷◌, ◌++◌, bytes_eq, Some, None, cond, if◌then◌else◌, refl, sym, ap, ◌∙◌, unwrap_or, filter, find, slice_get}
use Rattle.std.specs.Map.{lookup}
use Rattle.std.proofs.lemmas.Bool.{cases_Bool, and_parts}
use Rattle.std.proofs.lemmas.Bool.Decides.{Decides-eqb, Decides-like, same_from_decides, nat_tests}
use Rattle.std.proofs.lemmas.List.{append-nil}
use Rattle.std.proofs.lemmas.List.Elements.{filter-append}
use Rattle.std.proofs.lemmas.Slice.Eq.{bytes_eq-Decides}
use Rattle.sg_model.proofs.Small.{and_left}
use Rattle.sg_base.proofs.SameName.{same, same_is, same-bytes_eq_back}
use Rattle.sg_script.specs.Script.{Choice}
use Rattle.sg_play.specs.Choosing.{is_ready, used, ready}
use Rattle.sg_play.specs.Queues.{Spot, is_spot, queue_at, used_first, HoldsChoices}

abbrev pub Table : Type 0
Table = List (Spot × List Choice)

-- the derived `==` of spots
abbrev pub eq : Spot → Spot → Bool
eq a b = same a.0 b.0 && (a.1 == b.1)

-- it compares the parts
by_parts : (g : List ℕ) (n : ℕ) → eq (g, n) ≡ is_spot g n
by_parts g n = λ i k. same_is g i k.0 && (n == k.1)

eqb-swap : (a b : ℕ) → (a == b) ≡ (b == a)
eqb-swap a b = same_from_decides _ _ (Decides-eqb a b) (Decides-like _ sym sym (Decides-eqb b a))

texts-swap : (a b : List ℕ) → bytes_eq a b ≡ bytes_eq b a
texts-swap a b = same_from_decides _ _ (bytes_eq-Decides a b) (Decides-like _ sym sym (bytes_eq-Decides b a))

-- either way round
swap : (s : Spot) (g : List ℕ) (n : ℕ) → eq s (g, n) ≡ is_spot g n s
swap s g n = λ i. same-bytes_eq_back s.0 g i && eqb-swap s.1 n i

-- what a look-up finds
pub at_parts : (t : Table) (g : List ℕ) (n : ℕ) → lookup (eq (g, n)) t ≡ lookup (is_spot g n) t
at_parts t g n = ap (λ test. lookup test t) (by_parts g n)

-- the queues after one was written
pub queue_updated : (old new : Table) (spot : Spot) (w : List Choice) → ((q : Spot) → lookup (eq q) new ≡ cond (eq spot q) (Some w) (lookup (eq q) old)) → (g : List ℕ) (n : ℕ) →
    queue_at new g n ≡ (if is_spot g n spot then w else queue_at old g n)
queue_updated old new spot w u g n = ap (λ o. unwrap_or o []) (sym (at_parts new g n) ∙ u (g, n)) ∙ go (eq spot (g, n)) (is_spot g n spot) (swap spot g n)
  where
    go : (a b : Bool) → a ≡ b → unwrap_or (cond a (Some w) (lookup (eq (g, n)) old)) [] ≡ (if b then w else queue_at old g n)
    go true true e = refl
    go true false e = cc
    go false true e = cc
    go false false e = ap (λ o. unwrap_or o []) (at_parts old g n)

-- ---- spots

-- a node that passes the test of a spot is that of the spot
same_spot : (g : List ℕ) (n : ℕ) (s : Spot) → is_spot g n s ≡ true → is_spot g n ≡ is_spot s.0 s.1
same_spot g n s e = let parts = and_parts _ _ e in λ i. is_spot ((bytes_eq-Decides g s.0).0 parts.0 i) ((Decides-eqb n s.1).0 parts.1 i)

-- what stands there
at_spot : (t : Table) (s : Spot) (q : List Choice) (g : List ℕ) (n : ℕ) → unwrap_or (lookup (eq s) t) [] ≡ q → is_spot g n s ≡ true → queue_at t g n ≡ q
at_spot t s q g n h e = ap (λ test. unwrap_or (lookup test t) []) (same_spot g n s e ∙ sym (by_parts s.0 s.1)) ∙ h

-- a choice at the end of a spot's queue
pub pushed : (old new : Table) (spot : Spot) (q : List Choice) (x : Choice) → unwrap_or (lookup (eq spot) old) [] ≡ q →
    ((k : Spot) → lookup (eq k) new ≡ cond (eq spot k) (Some (q ++ x ∷ [])) (lookup (eq k) old)) → (g : List ℕ) (n : ℕ) →
    queue_at new g n ≡ queue_at old g n ++ (if is_spot g n spot then x ∷ [] else [])
pushed old new spot q x h u g n = queue_updated old new spot (q ++ x ∷ []) u g n ∙ go (is_spot g n spot) (at_spot old spot q g n h)
  where
    go : (b : Bool) → (b ≡ true → queue_at old g n ≡ q) → (if b then q ++ x ∷ [] else queue_at old g n) ≡ queue_at old g n ++ (if b then x ∷ [] else [])
    go true e = ap (λ l. l ++ x ∷ []) (sym (e refl))
    go false e = sym (append-nil (queue_at old g n))

-- a use of the first choice of a spot's queue
pub used_at : (old new : Table) (spot : Spot) (q : List Choice) → unwrap_or (lookup (eq spot) old) [] ≡ q →
    ((k : Spot) → lookup (eq k) new ≡ cond (eq spot k) (Some (used_first q)) (lookup (eq k) old)) → (g : List ℕ) (n : ℕ) →
    queue_at new g n ≡ (if is_spot g n spot then used_first (queue_at old g n) else queue_at old g n)
used_at old new spot q h u g n = queue_updated old new spot (used_first q) u g n ∙ go (is_spot g n spot) (at_spot old spot q g n h)
  where
    go : (b : Bool) → (b ≡ true → queue_at old g n ≡ q) → (if b then used_first q else queue_at old g n) ≡ (if b then used_first (queue_at old g n) else queue_at old g n)
    go true e = ap used_first (sym (e refl))
    go false e = refl

-- nothing to use
pub none_at : (t : Table) (spot : Spot) → lookup (eq spot) t ≡ None → (g : List ℕ) (n : ℕ) → queue_at t g n ≡ (if is_spot g n spot then used_first (queue_at t g n) else queue_at t g n)
none_at t spot h g n = go (is_spot g n spot) (at_spot t spot [] g n (ap (λ o. unwrap_or o []) h))
  where
    go : (b : Bool) → (b ≡ true → queue_at t g n ≡ []) → queue_at t g n ≡ (if b then used_first (queue_at t g n) else queue_at t g n)
    go true e = e refl ∙ sym (ap used_first (e refl))
    go false e = refl

-- ---- choices that are ready

-- a choice with uses left is ready at its own spot
ready_there : (g : List ℕ) (n : ℕ) (c : Choice) → nat_lt 0 c.times ≡ true → is_ready g n c ≡ is_spot g n (c.graph, c.node)
ready_there g n c e = ap (λ b. bytes_eq c.graph g && (c.node == n) && b) e ∙ yes (bytes_eq c.graph g && (c.node == n)) ∙ (λ i. texts-swap c.graph g i && eqb-swap c.node n i)
  where
    yes : (b : Bool) → (b && true) ≡ b
    yes true = refl
    yes false = refl

never : (b : Bool) → (b && false) ≡ false
never true = refl
never false = refl

-- one without is not ready
pub ready_more_none : (g : List ℕ) (n : ℕ) (cs : List Choice) (c : Choice) → nat_lt 0 c.times ≡ false → ready g n (cs ++ c ∷ []) ≡ ready g n cs
ready_more_none g n cs c e = filter-append (is_ready g n) cs (c ∷ []) ∙ go (is_ready g n c) (ap (λ b. bytes_eq c.graph g && (c.node == n) && b) e ∙ never (bytes_eq c.graph g && (c.node == n)))
  where
    go : (b : Bool) → b ≡ false → ready g n cs ++ (if b then c ∷ [] else []) ≡ ready g n cs
    go true h = cc
    go false h = append-nil (ready g n cs)

pub ready_more : (g : List ℕ) (n : ℕ) (cs : List Choice) (c : Choice) → nat_lt 0 c.times ≡ true → ready g n (cs ++ c ∷ []) ≡ ready g n cs ++ (if is_spot g n (c.graph, c.node) then c ∷ [] else [])
ready_more g n cs c e = filter-append (is_ready g n) cs (c ∷ []) ∙ ap (λ b. ready g n cs ++ (if b then c ∷ [] else [])) (ready_there g n c e)

-- the first that is ready
pub first_ready : (p : Choice → Bool) (cs : List Choice) → slice_get (filter p cs) 0 ≡ find p cs
first_ready p [] = refl
first_ready p (c ∷ cs) = elim (cases_Bool (p c)) [ inl e ↦ rw e refl | inr e ↦ rw e (first_ready p cs) ]

one_less : (t : ℕ) → nat_lt 0 (t - 1) ≡ nat_lt 1 t
one_less t = grind (arith, nat_tests)

-- ---- after a use

-- at its own node
used_here : (g : List ℕ) (n : ℕ) (cs : List Choice) → ready g n (used g n cs) ≡ used_first (ready g n cs)
used_here g n [] = refl
used_here g n (c ∷ cs) = elim (cases_Bool (is_ready g n c)) [
  | inl e ↦ let f : (bytes_eq c.graph g && (c.node == n)) ≡ true = and_left _ _ e in rw e (rw f (go (nat_lt 0 (c.times - 1)) (nat_lt 1 c.times) (one_less c.times)))
  | inr e ↦ rw e (rw e (used_here g n cs))
]
  where
    go : (a b : Bool) → a ≡ b → (if a then (record c { times = c.times - 1 } ∷ ready g n cs) else ready g n cs) ≡ (if b then (record c { times = c.times - 1 } ∷ ready g n cs) else ready g n cs)
    go a b h = ap (λ x. if x then (record c { times = c.times - 1 } ∷ ready g n cs) else ready g n cs) h

-- a choice for one node is not for another
not_other : (g g' : List ℕ) (n n' : ℕ) (c : Choice) → is_spot g' n' (g, n) ≡ false → (bytes_eq c.graph g && (c.node == n)) ≡ true → (bytes_eq c.graph g' && (c.node == n')) ≡ false
not_other g g' n n' c h e =
    let parts = and_parts _ _ e in
    (λ i. texts-swap c.graph g' i && eqb-swap c.node n' i) ∙ (λ i. bytes_eq g' ((bytes_eq-Decides c.graph g).0 parts.0 i) && (n' == (Decides-eqb c.node n).0 parts.1 i)) ∙ h

-- at another node
used_elsewhere : (g g' : List ℕ) (n n' : ℕ) (cs : List Choice) → is_spot g' n' (g, n) ≡ false → ready g' n' (used g n cs) ≡ ready g' n' cs
used_elsewhere g g' n n' [] h = refl
used_elsewhere g g' n n' (c ∷ cs) h = elim (cases_Bool (is_ready g n c)) [
  | inl e ↦ let f : (bytes_eq c.graph g' && (c.node == n')) ≡ false = not_other g g' n n' c h (and_left _ _ e) in rw e (rw f refl)
  | inr e ↦ rw e (ap (λ l. cond (is_ready g' n' c) (c ∷ l) l) (used_elsewhere g g' n n' cs h))
]

-- the queues hold the choices after a use
pub holds_used : (old new : Table) (g : List ℕ) (n : ℕ) (cs : List Choice) → ((g' : List ℕ) (n' : ℕ) → queue_at new g' n' ≡ (if is_spot g' n' (g, n) then used_first (queue_at old g' n') else queue_at old g' n')) →
    HoldsChoices old cs → HoldsChoices new (used g n cs)
holds_used old new g n cs u h g' n' = u g' n' ∙ elim (cases_Bool (is_spot g' n' (g, n))) [
  | inl e ↦ rw e (ap used_first (h g' n') ∙ here e)
  | inr e ↦ rw e (h g' n' ∙ sym (used_elsewhere g g' n n' cs e))
]
  where
    here : is_spot g' n' (g, n) ≡ true → used_first (ready g' n' cs) ≡ ready g' n' (used g n cs)
    here e = let parts = and_parts _ _ e in
        sym ((λ i. ready g' n' (used (sym ((bytes_eq-Decides g' g).0 parts.0) i) (sym ((Decides-eqb n' n).0 parts.1) i) cs)) ∙ used_here g' n' cs)

-- what stands first in a queue is the first choice that is ready
pub found_first : (t : Table) (g : List ℕ) (n : ℕ) (cs : List Choice) (q : List Choice) → unwrap_or (lookup (eq (g, n)) t) [] ≡ q → HoldsChoices t cs → slice_get q 0 ≡ find (is_ready g n) cs
found_first t g n cs q e h = ap (λ l. slice_get l 0) (sym e ∙ ap (λ o. unwrap_or o []) (at_parts t g n) ∙ h g n) ∙ first_ready (is_ready g n) cs

-- the queues hold one choice more
pub holds_more : (old new : Table) (cs : List Choice) (c : Choice) → nat_lt 0 c.times ≡ true →
    ((g : List ℕ) (n : ℕ) → queue_at new g n ≡ queue_at old g n ++ (if is_spot g n (c.graph, c.node) then c ∷ [] else [])) → HoldsChoices old cs → HoldsChoices new (cs ++ c ∷ [])
holds_more old new cs c e u h g n = u g n ∙ ap (λ l. l ++ (if is_spot g n (c.graph, c.node) then c ∷ [] else [])) (h g n) ∙ sym (ready_more g n cs c e)

-- and one without uses for nothing
pub holds_none : (t : Table) (cs : List Choice) (c : Choice) → nat_lt 0 c.times ≡ false → HoldsChoices t cs → HoldsChoices t (cs ++ c ∷ [])
holds_none t cs c e h g n = h g n ∙ sym (ready_more_none g n cs c e)
