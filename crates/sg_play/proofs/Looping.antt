-- Starts and deliveries, one after another.
use Rattle.std.proofs.Common.{◌≡◌, ℕ, zero, suc, ◌+◌, ◌<◌, ◌≤◌, List, [], ◌∷◌, ◌++◌, take, drop, length, get_or, refl, sym, ap, ◌∙◌, subst, add-one, arith}
use Rattle.std.proofs.lemmas.List.{take_more}
use Rattle.sg_protocol.specs.Calls.{Deliver}
use Rattle.sg_script.specs.Script.{Start as ScriptStart}
use Rattle.sg_play.specs.Played.{Play, all_deliveries, all_starts, next_confounders, starts, with_turn, next_random}
use Rattle.sg_play.proofs.Extends.{Extends, by_deliveries, by_starts, deliveries_both, starts_both}

module _ {X : Type 0} where
  next_taken : (k : ℕ) (ds : List X) (b : X) → drop k ds ≡ b ∷ drop 1 (drop k ds) → take (suc k) ds ≡ take k ds ++ b ∷ []
  next_taken zero [] b e = absurd (cc)
  next_taken zero (d ∷ ds) b e = cc
  next_taken (suc k) [] b e = absurd (cc)
  next_taken (suc k) (d ∷ ds) b e = ap (λ l. d ∷ l) (next_taken k ds b e)

  next_left : (k : ℕ) (ds : List X) → drop 1 (drop k ds) ≡ drop (suc k) ds
  next_left zero ds = refl
  next_left (suc k) [] = refl
  next_left (suc k) (d ∷ ds) = next_left k ds

  -- the first of what is left is the next
  pub taken_next : (k : ℕ) (ds : List X) (b : X) → drop k ds ≡ b ∷ drop 1 (drop k ds) → take (k + 1) ds ≡ take k ds ++ b ∷ []
  taken_next k ds b e = ap (λ n. take n ds) (add-one k) ∙ next_taken k ds b e

  pub left_next : (k : ℕ) (ds : List X) → drop 1 (drop k ds) ≡ drop (k + 1) ds
  left_next k ds = next_left k ds ∙ sym (ap (λ n. drop n ds) (add-one k))

  no_take : (m : ℕ) → take {A = X} m [] ≡ []
  no_take zero = refl
  no_take (suc m) = refl

  no_drop : (m : ℕ) → drop {A = X} m [] ≡ []
  no_drop zero = refl
  no_drop (suc m) = refl

  -- nothing is left
  pub taken_all : (k m : ℕ) (ds : List X) → k ≤ m → drop k ds ≡ [] → take m ds ≡ take k ds
  taken_all zero m [] l e = no_take m
  taken_all zero m (d ∷ ds) l e = absurd (cc)
  taken_all (suc k) zero ds l e = absurd (omega (arith, l))
  taken_all (suc k) (suc m) [] l e = refl
  taken_all (suc k) (suc m) (d ∷ ds) l e = ap (λ z. d ∷ z) (taken_all k m ds (omega (arith, l)) e)

  pub left_none : (k m : ℕ) (ds : List X) → k ≤ m → drop k ds ≡ [] → drop m ds ≡ []
  left_none zero m [] l e = no_drop m
  left_none zero m (d ∷ ds) l e = absurd (cc)
  left_none (suc k) zero ds l e = absurd (omega (arith, l))
  left_none (suc k) (suc m) [] l e = refl
  left_none (suc k) (suc m) (d ∷ ds) l e = left_none k m ds (omega (arith, l)) e

  -- fewer stand before more
  pub taken_part : (k m : ℕ) (ds : List X) → k ≤ m → (rest : List X) × (take m ds ≡ take k ds ++ rest)
  taken_part zero m ds l = (take m ds, refl)
  taken_part (suc k) zero ds l = absurd (omega (arith, l))
  taken_part (suc k) (suc m) [] l = ([], refl)
  taken_part (suc k) (suc m) (d ∷ ds) l = let r = taken_part k m ds (omega (arith, l)) in (r.0, ap (λ z. d ∷ z) r.1)

  pub whole_part : (k : ℕ) (ds : List X) → (rest : List X) × (ds ≡ take k ds ++ rest)
  whole_part zero ds = (ds, refl)
  whole_part (suc k) [] = ([], refl)
  whole_part (suc k) (d ∷ ds) = let r = whole_part k ds in (r.0, ap (λ z. d ∷ z) r.1)

-- ---- random bytes

left_behind : (n : ℕ) (all : List (List ℕ)) → drop n (drop 1 all) ≡ drop (suc n) all
left_behind n [] = no_drop n
left_behind n (w ∷ all) = refl

next_more : (n : ℕ) (all : List (List ℕ)) → next_confounders n all ++ next_random (drop n all) ∷ [] ≡ next_confounders (suc n) all
next_more zero all = refl
next_more (suc n) all = ap (λ (l : List (List ℕ)). next_random all ∷ l) (ap (λ (l : List (List ℕ)). next_confounders n (drop 1 all) ++ next_random l ∷ []) (sym (left_behind n all)) ∙ next_more n (drop 1 all))

-- sixteen random bytes more
pub random_next : (n : ℕ) (all : List (List ℕ)) → next_confounders n all ++ next_random (drop n all) ∷ [] ≡ next_confounders (n + 1) all
random_next n all = next_more n all ∙ sym (ap (λ (k : ℕ). next_confounders k all) (add-one n))

-- ---- deliveries

pub delivery_next : (p : Play) (k : ℕ) (ds : List (List ℕ)) (b : List ℕ) → drop k ds ≡ b ∷ drop 1 (drop k ds) → with_turn (all_deliveries p (take k ds)) (Deliver b) ≡ all_deliveries p (take (k + 1) ds)
delivery_next p k ds b e = sym (ap (all_deliveries p) (taken_next k ds b e) ∙ deliveries_both p (take k ds) (b ∷ []))

pub deliveries_on : (p : Play) (k m : ℕ) (ds : List (List ℕ)) → k ≤ m → Extends (all_deliveries p (take k ds)) (all_deliveries p (take m ds))
deliveries_on p k m ds l =
    let r = taken_part k m ds l in
    subst (Extends (all_deliveries p (take k ds))) (sym (ap (all_deliveries p) r.1 ∙ deliveries_both p (take k ds) r.0)) (by_deliveries (all_deliveries p (take k ds)) r.0)

-- ---- starts

pub start_next : (p : Play) (i : ℕ) (ss : List ScriptStart) (s : ScriptStart) → i < length ss → s ≡ get_or ss i s → starts (all_starts p (take i ss)) s ≡ all_starts p (take (i + 1) ss)
start_next p i ss s l e = ap (starts (all_starts p (take i ss))) e ∙ sym (ap (all_starts p) (take_more ss i s l) ∙ starts_both p (take i ss) (get_or ss i s ∷ []))

pub starts_on : (p : Play) (k : ℕ) (ss : List ScriptStart) → Extends (all_starts p (take k ss)) (all_starts p ss)
starts_on p k ss =
    let r = whole_part k ss in
    subst (Extends (all_starts p (take k ss))) (sym (ap (all_starts p) r.1 ∙ starts_both p (take k ss) r.0)) (by_starts (all_starts p (take k ss)) r.0)
