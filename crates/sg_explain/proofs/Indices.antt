-- Lists with an index for each of the 32 variables, written one by one.
use Rattle.std.proofs.Common.{◌≡◌, ◌≢◌, ℕ, suc, ◌+◌, ◌<◌, ◌==◌, nat_lt, Bool, true, false, ◌||◌, if◌then◌else◌, List, ◌∷◌, ◌⊎◌, drop, length, get_or, refl, sym, ◌∙◌, subst, inl, inr, arith, get_or-set_same, get_or-set_other}
use Rattle.std.specs.Prelude.{slice_set}
use Rattle.std.specs.List.{list_all}
use Rattle.std.proofs.lemmas.Bool.Decides.{nat_tests}
use Rattle.std.proofs.lemmas.Bool.{cases_Bool, and_parts}
use Rattle.sg_model.specs.Lists.{is_in, keys_of}
use Rattle.sg_model.proofs.Small.{drop_from}
use Rattle.sg_protocol.specs.Graph.{Graph, writes, AreNumbers}
use Rattle.sg_explain.specs.Matching.{IsNamed}
use Rattle.sg_walk.specs.Model.{step_of}
use Rattle.sg_walk.specs.declared.stored.StoredStep.{StoredStep as Step}
use Rattle.sg_explain.proofs.Steps.{keys_writes, numbers_below}

-- the first of the variables that are left is below 32, and so are the others
pub small_head : {B : Type 0} (ws : List (ℕ × B)) (i : ℕ) (w : ℕ × B) → i < length ws → w ≡ get_or ws i w → list_all (λ x. nat_lt x 32) (keys_of (drop i ws)) ≡ true
    → (w.0 < 32) × (list_all (λ x. nat_lt x 32) (keys_of (drop (i + 1) ws)) ≡ true)
small_head {B} ws i w l e s =
    let cut = drop_from ws i w l e in
    let up : suc i ≡ i + 1 = omega arith in
    let s' : list_all (λ x. nat_lt x 32) (keys_of (w ∷ drop (suc i) ws)) ≡ true = subst (λ (l : List (ℕ × B)). list_all (λ x. nat_lt x 32) (keys_of l) ≡ true) cut s in
    let parts = and_parts (nat_lt w.0 32) (list_all (λ x. nat_lt x 32) (keys_of (drop (suc i) ws))) s' in
    ((let a = parts.0 in grind (arith, nat_tests, a)), subst (λ k. list_all (λ x. nat_lt x 32) (keys_of (drop k ws)) ≡ true) up parts.1)

-- a value is put at the index of one more variable
pub put_on : {V B : Type 0} (v d : V) (indices : List V) (ws : List (ℕ × B)) (i : ℕ) (w : ℕ × B) (F : ℕ → V) (n : ℕ) → n ≡ w.0 → w.0 < 32 → length indices ≡ 32 → i < length ws → w ≡ get_or ws i w
    → ((x : ℕ) → x < 32 → (if is_in x (keys_of (drop i ws)) then v else get_or indices x d) ≡ F x)
    → (x : ℕ) → x < 32 → (if is_in x (keys_of (drop (i + 1) ws)) then v else get_or (slice_set indices n v) x d) ≡ F x
put_on {V} {B} v d indices ws i w F n en lw wide l e h x b =
    let cut = drop_from ws i w l e in
    let up : suc i ≡ i + 1 = omega arith in
    let h' : (if ((w.0 == x) || is_in x (keys_of (drop (suc i) ws))) then v else get_or indices x d) ≡ F x =
    subst (λ (l : List (ℕ × B)). (if is_in x (keys_of l) then v else get_or indices x d) ≡ F x) cut (h x b) in
    subst (λ k. (if is_in x (keys_of (drop k ws)) then v else get_or (slice_set indices n v) x d) ≡ F x) up
    (step (is_in x (keys_of (drop (suc i) ws))) h' (cases_Bool (w.0 == x)))
  where
    branch : (t : Bool) → (if t then v else v) ≡ v
    branch true = refl
    branch false = refl

    step : (t : Bool) → (if ((w.0 == x) || t) then v else get_or indices x d) ≡ F x → ((w.0 == x) ≡ true) ⊎ ((w.0 == x) ≡ false)
        → (if t then v else get_or (slice_set indices n v) x d) ≡ F x
    step t g (inl y) =
        let g' : v ≡ F x = rw y at g in
        let same : x ≡ n = grind (arith, nat_tests, y, en) in
        let there : n < length indices = omega arith in
        let put : get_or (slice_set indices n v) x d ≡ v = rw same (get_or-set_same indices n v d there) in
        rw put (branch t ∙ g')
    step true g (inr z) = rw z at g
    step false g (inr z) =
        let g' : get_or indices x d ≡ F x = rw z at g in
        let other : x ≢ n = (λ q. absurd (let y : (w.0 == x) ≡ true = grind (arith, nat_tests, q, en) in let c : true ≡ false = sym y ∙ z in cc)) in
        get_or-set_other indices n x v d other ∙ g'

-- the variables of a step that names its edge's are below 32
pub small_keys : (g : Graph) (s : Step) (ws : List ℕ) → IsNamed g (step_of s) → ws ≡ writes g s.label → AreNumbers 32 ws → list_all (λ x. nat_lt x 32) (keys_of s.writes) ≡ true
small_keys g s ws n e a =
    let keys : ws ≡ keys_of s.writes = e ∙ sym n.1 ∙ keys_writes s.writes in
    subst (λ xs. list_all (λ x. nat_lt x 32) xs ≡ true) keys (numbers_below 32 ws a)
