-- Numbers from 0 on, what stands at an index of a list, and what is kept of one that grows.
use Rattle.std.proofs.Common.{◌≡◌, ℕ, zero, suc, ◌+◌, ◌<◌, ◌≤◌, Bool, true, false, not, nat_lt, List, [], ◌∷◌, ◌++◌, map, filter, length, take, drop, get_or, slice_get, refl, sym, ◌∙◌, ap, Some, None, option_map, position, if◌then◌else◌, arith, inl, inr, ◌⊎◌}
use Rattle.std.specs.List.{prefix_len}
use Rattle.std.proofs.lemmas.Bool.{cases_Bool}
use Rattle.std.proofs.lemmas.Bool.Decides.{nat_tests}
use Rattle.sg_model.specs.Lists.{below, is_in}
use Rattle.sg_model.proofs.Small.{some_same, zero_less, heads, tails}
use Rattle.sg_model.proofs.Numbers.{below-suc, map_below_more, filter_below_in, filter_below_out}

-- one more of the same for one more number
pub const_more : {A : Type 0} (a : A) (i : ℕ) → map (λ (x : ℕ). a) (below (i + 1)) ≡ map (λ (x : ℕ). a) (below i) ++ a ∷ []
const_more a i = ap (map (λ (x : ℕ). a)) (below-suc i) ∙ go (below i)
  where
    go : (xs : List ℕ) → map (λ (x : ℕ). a) (xs ++ i ∷ []) ≡ map (λ (x : ℕ). a) xs ++ a ∷ []
    go [] = refl
    go (x ∷ xs) = ap (λ l. a ∷ l) (go xs)

-- what is given for each number below one more
pub map_below : {A : Type 0} (f : ℕ → A) (i : ℕ) → map f (below (i + 1)) ≡ map f (below i) ++ f i ∷ []
map_below f i = map_below_more f i

-- the numbers of a set below one more: the number is added if it is in the set
pub members_next : (set : List ℕ) (i : ℕ) (b : Bool) (now next : List ℕ) → b ≡ is_in i set → now ≡ filter (λ x. is_in x set) (below i)
    → ((b ≡ true) × (next ≡ now ++ i ∷ [])) ⊎ ((b ≡ false) × (next ≡ now)) → next ≡ filter (λ x. is_in x set) (below (i + 1))
members_next set i b now next is before (inl y) = y.1 ∙ ap (λ l. l ++ i ∷ []) before ∙ sym (filter_below_in (λ x. is_in x set) i (sym is ∙ y.0))
members_next set i b now next is before (inr n) = n.1 ∙ before ∙ sym (filter_below_out (λ x. is_in x set) i (sym is ∙ n.0))

-- ---- indices

pub take_over : {A : Type 0} (xs : List A) (at : ℕ) → length xs ≤ at → take at xs ≡ xs
take_over [] zero l = refl
take_over [] (suc at) l = refl
take_over (x ∷ xs) zero l = absurd (omega (arith, l))
take_over (x ∷ xs) (suc at) l = ap (λ r. x ∷ r) (take_over xs at (omega (arith, l)))

-- if more is left, something stands at the index
pub drop_more : {A : Type 0} (xs : List A) (at : ℕ) → at < length xs → (x : A) × (ys : List A) × (drop at xs ≡ x ∷ ys)
drop_more [] at l = absurd (omega (arith, l))
drop_more (x ∷ xs) zero l = (x, xs, refl)
drop_more (x ∷ xs) (suc at) l = drop_more xs at (omega (arith, l))

-- ---- what is kept

-- what begins a list still begins it when it grows
pub take_keep : {A : Type 0} (ys xs zs : List A) → take (length ys) xs ≡ ys → take (length ys) (xs ++ zs) ≡ ys
take_keep [] xs zs e = refl
take_keep (y ∷ ys) [] zs e = absurd (cc)
take_keep (y ∷ ys) (x ∷ xs) zs e = ap (λ z. z ∷ take (length ys) (xs ++ zs)) (heads x y (take (length ys) xs) ys e) ∙ ap (λ l. y ∷ l) (take_keep ys xs zs (tails x y (take (length ys) xs) ys e))

-- ---- the first that fails

pub position_step : {A : Type 0} (p : A → Bool) (x : A) (xs : List A) → position (λ c. not (p c)) (x ∷ xs) ≡ (if p x then option_map (λ k. k + 1) (position (λ c. not (p c)) xs) else Some 0)
position_step p x xs = elim (cases_Bool (p x)) [
  | inl e ↦ rw e (go (prefix_len (λ c. not (not (p c))) xs) (length xs))
  | inr e ↦ rw (e, zero_less (length xs)) refl
]
  where
    go : (m l : ℕ) → (if nat_lt (1 + m) (suc l) then Some (1 + m) else None) ≡ option_map (λ k. k + 1) (if nat_lt m l then Some m else None)
    go m l = elim (cases_Bool (nat_lt m l)) [
      | inl e ↦ (let f : nat_lt (1 + m) (suc l) ≡ true = grind (arith, nat_tests) in rw (f, e) (ap (λ k. Some k) (omega arith)))
      | inr e ↦ (let f : nat_lt (1 + m) (suc l) ≡ false = grind (arith, nat_tests) in rw (f, e) refl)
    ]

-- ---- look-ups

next_less : (b : Bool) (k n : ℕ) → nat_lt k n ≡ b → nat_lt (suc k) (suc n) ≡ b
next_less true k n e = grind (arith, nat_tests)
next_less false k n e = grind (arith, nat_tests)

pub got : {A : Type 0} (xs : List A) (k : ℕ) (d x : A) → slice_get xs k ≡ Some x → (get_or xs k d ≡ x) × (nat_lt k (length xs) ≡ true)
got [] k d x e = absurd (cc)
got (y ∷ ys) zero d x e = (some_same e, zero_less (length ys))
got (y ∷ ys) (suc k) d x e = let r = got ys k d x e in (r.0, next_less true k (length ys) r.1)

pub not_got : {A : Type 0} (xs : List A) (k : ℕ) → slice_get xs k ≡ None → nat_lt k (length xs) ≡ false
not_got [] k e = grind (arith, nat_tests)
not_got (y ∷ ys) zero e = absurd (cc)
not_got (y ∷ ys) (suc k) e = next_less false k (length ys) (not_got ys k e)
