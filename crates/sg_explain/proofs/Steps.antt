-- Walks with values, step by step.
use Rattle.std.proofs.Common.{◌≡◌, ℕ, zero, suc, ◌+◌, ◌-◌, ◌<◌, ◌≤◌, nat_lt, Bool, true, false, List, [], ◌∷◌, map, drop, length, get_or, refl, ap, sym, ◌∙◌, subst, arith, ◌↔◌}
use Rattle.std.specs.Prelude.{Option, Some, IsTrue, ⊤}
use Rattle.std.specs.List.{list_all, AllByRecursion}
use Rattle.std.proofs.lemmas.Bool.{and_parts}
use Rattle.sg_model.specs.Lists.{keys_of, rises_from}
use Rattle.sg_model.specs.Last.{last, last_or}
use Rattle.sg_model.specs.Shape.{Walk, target}
use Rattle.sg_model.proofs.Small.{drop_from, drop_end}
use Rattle.sg_protocol.specs.Graph.{Graph, shape, writes, AreNumbers}
use Rattle.sg_protocol.specs.Walk.{StoredStep, IsStoredStep, IsStoredWalk, is_typed_or_hidden, labels}
use Rattle.sg_protocol.proofs.Entries.{edges_same}
use Rattle.sg_explain.specs.Matching.{IsNamed, Follows}
use Rattle.sg_base.specs.declared.value.Value.{Value as Held}
use Rattle.sg_walk.specs.Model.{step_of, writes_of}
use Rattle.sg_walk.specs.declared.stored.StoredStep.{StoredStep as Step}

-- the steps are a walk from node m, with values
abbrev pub StepsFrom : Graph → ℕ → List StoredStep → Type 0
StepsFrom g m [] = ⊤
StepsFrom g m (s ∷ ss) = Follows g m s × StepsFrom g (target (shape g) s.label) ss

joined : (g : Graph) (m : ℕ) (ss : List StoredStep) → Walk (shape g) m (labels ss) → AllByRecursion (IsStoredStep g) ss → StepsFrom g m ss
joined g m [] w v = tt
joined g m (s ∷ ss) w v = ((subst (λ n. s.label < n) (edges_same g) w.0, w.1, v.0), joined g (target (shape g) s.label) ss w.2 v.1)

walked : (g : Graph) (m : ℕ) (ss : List StoredStep) → StepsFrom g m ss → Walk (shape g) m (labels ss)
walked g m [] h = tt
walked g m (s ∷ ss) h = (subst (λ n. s.label < n) (sym (edges_same g)) h.0.0, h.0.1, walked g (target (shape g) s.label) ss h.1)

valued : (g : Graph) (m : ℕ) (ss : List StoredStep) → StepsFrom g m ss → AllByRecursion (IsStoredStep g) ss
valued g m [] h = tt
valued g m (s ∷ ss) h = (h.0.2, valued g (target (shape g) s.label) ss h.1)

-- a walk from the start with values is its steps from node 0
pub whole : (g : Graph) (ss : List StoredStep) → IsStoredWalk g ss ↔ StepsFrom g 0 ss
whole g ss = (λ w. joined g 0 ss w.walk w.values, λ h. record { walk = walked g 0 ss h; values = valued g 0 ss h })

-- each step of a walk with values names its edge and variables
named_from : (g : Graph) (m : ℕ) (ss : List StoredStep) → StepsFrom g m ss → AllByRecursion (IsNamed g) ss
named_from g m [] h = tt
named_from g m (s ∷ ss) h = ((h.0.0, h.0.2.0), named_from g (target (shape g) s.label) ss h.1)

pub named : (g : Graph) (ss : List StoredStep) → IsStoredWalk g ss → AllByRecursion (IsNamed g) ss
named g ss w = named_from g 0 ss ((whole g ss).0 w)

-- what holds of all holds of the one at an index
pub all_at : {A B : Type 0} (P : B → Type 0) (f : A → B) (xs : List A) (i : ℕ) (x : A) → AllByRecursion P (map f xs) → i < length xs → x ≡ get_or xs i x → P (f x)
all_at P f [] i x h l e = absurd (omega arith)
all_at P f (y ∷ ys) zero x h l e = subst (λ z. P (f z)) (sym e) h.0
all_at P f (y ∷ ys) (suc i) x h l e = all_at P f ys i x h.1 (omega arith) e

-- the last of a list stands one before its length
pub last_at : {A B : Type 0} (f : A → B) (xs : List A) (x : A) → 0 < length xs → x ≡ get_or xs (length xs - 1) x → last (map f xs) ≡ Some (f x)
last_at f [] x l e = absurd (omega arith)
last_at {A} {B} f (y ∷ ys) x l e = ap Some (from y ys x (subst (λ n. x ≡ get_or (y ∷ ys) n x) (pred ys) e))
  where
    pred : (ys : List A) → length (y ∷ ys) - 1 ≡ length ys
    pred ys = omega arith

    from : (y : A) (ys : List A) (x : A) → x ≡ get_or (y ∷ ys) (length ys) x → last_or (f y) (map f ys) ≡ f x
    from y [] x e = ap f (sym e)
    from y (z ∷ zs) x e = from z zs x e

-- numbers below a bound, as a test
pub numbers_below : (n : ℕ) (xs : List ℕ) → AreNumbers n xs → list_all (λ x. nat_lt x n) xs ≡ true
numbers_below n xs h = (and_parts (rises_from 0 xs) (list_all (λ x. nat_lt x n) xs) h).1

-- ---- the loop over the steps

-- the next step follows
pub steps_on : (W : Type 0) (g : Graph) (m n : ℕ) (xs : List Step) (i : ℕ) (x : Step) → i < length xs → x ≡ get_or xs i x → Follows g m (step_of x)
    → n ≡ target (shape g) x.label → (W ↔ StepsFrom g m (map step_of (drop i xs))) → (W ↔ StepsFrom g n (map step_of (drop (i + 1) xs)))
steps_on W g m n xs i x l e f t k =
    let cut = drop_from xs i x l e in
    let up : suc i ≡ i + 1 = omega arith in
    let k' : W ↔ StepsFrom g m (map step_of (x ∷ drop (suc i) xs)) = subst (λ ys. W ↔ StepsFrom g m (map step_of ys)) cut k in
    let inner : W ↔ StepsFrom g n (map step_of (drop (suc i) xs)) = (
      λ w. subst (λ q. StepsFrom g q (map step_of (drop (suc i) xs))) (sym t) (k'.0 w).1,
      λ h. k'.1 (f, subst (λ q. StepsFrom g q (map step_of (drop (suc i) xs))) t h),
    ) in
    subst (λ q. W ↔ StepsFrom g n (map step_of (drop q xs))) up inner

-- no step is left
pub steps_end : (W : Type 0) (g : Graph) (m : ℕ) (xs : List Step) (i : ℕ) → length xs ≤ i → (W ↔ StepsFrom g m (map step_of (drop i xs))) → W
steps_end W g m xs i l k = k.1 (subst (λ ys. StepsFrom g m (map step_of ys)) (sym (drop_end xs i l)) tt)

-- the variables of the writes stay where the values are seen
pub keys_writes : (ws : List (ℕ × Option Held)) → keys_of (writes_of ws) ≡ map (λ w. w.0) ws
keys_writes [] = refl
keys_writes (w ∷ ws) = ap (λ l. w.0 ∷ l) (keys_writes ws)

-- a step whose variables are those of its edge is one of a walk with values exactly if they are typed
pub stored_step : (g : Graph) (s : Step) (t : Bool) → map (λ w. w.0) s.writes ≡ writes g s.label → t ≡ list_all (is_typed_or_hidden g) (writes_of s.writes) → IsTrue t ↔ IsStoredStep g (step_of s)
stored_step g s t k e = (λ h. (keys_writes s.writes ∙ k, sym e ∙ h), λ h. e ∙ h.1)

-- a step whose variables are not those of its edge is none
pub no_stored_step : (g : Graph) (s : Step) (t : Bool) → t ≡ false → (map (λ w. w.0) s.writes ≡ writes g s.label → ⊥) → IsTrue t ↔ IsStoredStep g (step_of s)
no_stored_step g s t f k = (λ h. absurd (cc), λ h. absurd (k (sym (keys_writes s.writes) ∙ h.0)))

-- a step of a walk whose steps name their edges names its edge
pub named_at : (g : Graph) (xs ys : List Step) (i : ℕ) (x : Step) → xs ≡ ys → AllByRecursion (IsNamed g) (map step_of ys) → i < length xs → x ≡ get_or xs i x → IsNamed g (step_of x)
named_at g xs ys i x e h l is = all_at (IsNamed g) step_of xs i x (subst (λ zs. AllByRecursion (IsNamed g) (map step_of zs)) (sym e) h) l is
