-- Lists of what is there, one after the other.
use Rattle.std.proofs.Common.{◌≡◌, ℕ, suc, ◌+◌, ◌-◌, ◌<◌, List, [], ◌∷◌, ◌++◌, filter_map, append_assoc, refl, sym, ap, ◌∙◌, arith, add-one}
use Rattle.std.specs.Prelude.{Option, Some, None, option_map, Result, Ok}
use Rattle.sg_model.specs.Lists.{range_from}
use Rattle.sg_script.specs.Format.{all_there, then_with}
use Rattle.sg_script.specs.declared.fault.ScriptFault.{ScriptFault}

module _ {A : Type 0} where
  -- what is there behind what was found
  abbrev pub behind : List A → Option (List A) → Option (List A)
  behind xs o = option_map (λ ys. xs ++ ys) o

  -- one more was found
  pub behind-more : (xs : List A) (x : A) (o : Option (List A)) → behind xs (option_map (λ ys. x ∷ ys) o) ≡ behind (xs ++ x ∷ []) o
  behind-more xs x None = refl
  behind-more xs x (Some ys) = ap Some (sym (append_assoc xs (x ∷ []) ys))

  -- the answer behind what was read
  abbrev pub onto : List A → Result (List A) ScriptFault → Result (List A) ScriptFault
  onto xs r = then_with r (λ ys. Ok (xs ++ ys))

-- the numbers from one on
pub range-step : (i n : ℕ) → i < n → range_from i (n - i) ≡ i ∷ range_from (i + 1) (n - (i + 1))
range-step i n h = let e : n - i ≡ suc (n - (i + 1)) = omega arith in rw (e, add-one) refl

-- a number for which there is nothing is passed over
pub numbers-nothing : {B : Type 0} (f : ℕ → Option B) (i n : ℕ) → i < n → f i ≡ None → filter_map f (range_from i (n - i)) ≡ filter_map f (range_from (i + 1) (n - (i + 1)))
numbers-nothing f i n h none = ap (filter_map f) (range-step i n h) ∙ rw none refl

-- a number for which there is something
pub numbers-one : {B : Type 0} (f : ℕ → Option B) (i n : ℕ) (y : B) → i < n → f i ≡ Some y → filter_map f (range_from i (n - i)) ≡ y ∷ filter_map f (range_from (i + 1) (n - (i + 1)))
numbers-one f i n y h one = ap (filter_map f) (range-step i n h) ∙ rw one refl

module _ {B : Type 0} (f : ℕ → Option (Option B)) (i n : ℕ) (xs : List B) (total : Option (List B)) (h : i < n) (so_far : total ≡ behind xs (all_there (filter_map f (range_from i (n - i))))) where
  -- a number for which one is found
  pub numbers-found : (y : B) → f i ≡ Some (Some y) → total ≡ behind (xs ++ y ∷ []) (all_there (filter_map f (range_from (i + 1) (n - (i + 1)))))
  numbers-found y one = so_far ∙ ap (λ ys. behind xs (all_there ys)) (numbers-one f i n (Some y) h one) ∙ behind-more xs y (all_there (filter_map f (range_from (i + 1) (n - (i + 1)))))

  -- a number for which there is nothing
  pub numbers-skipped : f i ≡ None → total ≡ behind xs (all_there (filter_map f (range_from (i + 1) (n - (i + 1)))))
  numbers-skipped none = so_far ∙ ap (λ ys. behind xs (all_there ys)) (numbers-nothing f i n h none)

  -- a number for which what there is is not there
  pub numbers-missing : f i ≡ Some None → total ≡ None
  numbers-missing none = so_far ∙ ap (λ ys. behind xs (all_there ys)) (numbers-one f i n None h none)
