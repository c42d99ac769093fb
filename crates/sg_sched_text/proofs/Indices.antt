-- The first index of what passes a test, and what stands there.
use Rattle.std.proofs.Common.{◌≡◌, ℕ, suc, ◌+◌, Bool, true, false, ◌||◌, List, [], ◌∷◌, ◌++◌, map, length, refl, sym, ap, ◌∙◌, arith, cond, if◌then◌else◌}
use Rattle.std.specs.Prelude.{Option, Some, None, position, is_some, option_map, option_and_then, unwrap_or, slice_get, find, nat_lt, bytes_eq}
use Rattle.std.specs.List.{list_any, position_from, position_or_len}
use Rattle.std.specs.Option.{option_or, option_map_or}
use Rattle.std.proofs.lemmas.Iterator.Adapters.{position_from-zero}
use Rattle.std.proofs.lemmas.List.Folds.{find_at}
use Rattle.std.proofs.lemmas.Option.{slice_get_past}
use Rattle.std.proofs.lemmas.Bool.{ltb-false}
use Rattle.sg_model.specs.Lists.{has_text}
use Rattle.sg_sched.specs.Format.Items.{index}

-- ---- one index

zero_plus : (n : ℕ) → 0 + n ≡ n
zero_plus n = omega arith

pick : (b r : Bool) (i : ℕ) (o : Option ℕ) → is_some o ≡ r → is_some (cond b (Some i) o) ≡ b || r
pick true r i o h = refl
pick false r i o h = h

both : (b : Bool) (i : ℕ) (o q : Option ℕ) (r : Option ℕ) → o ≡ option_or q r → cond b (Some i) o ≡ option_or (cond b (Some i) q) r
both true i o q r h = refl
both false i o q r h = h

module _ {X : Type 0} (p : X → Bool) where
  is_some_from : (i : ℕ) (xs : List X) → is_some (position_from p i xs) ≡ list_any p xs
  is_some_from i [] = refl
  is_some_from i (x ∷ xs) = pick (p x) (list_any p xs) i (position_from p (i + 1) xs) (is_some_from (i + 1) xs)

  -- there is one exactly if one passes
  pub some_index : (xs : List X) → is_some (position p xs) ≡ list_any p xs
  some_index xs = ap is_some (position_from-zero p xs) ∙ is_some_from 0 xs

  -- what stands at the first index is the first that passes
  pub found_at : (xs : List X) → find p xs ≡ option_and_then (slice_get xs) (position p xs)
  found_at xs = by (nat_lt (position_or_len p xs) (length xs)) refl
    where
      by : (b : Bool) → nat_lt (position_or_len p xs) (length xs) ≡ b → find p xs ≡ option_and_then (slice_get xs) (cond b (Some (position_or_len p xs)) None)
      by true e = find_at p xs
      by false e = find_at p xs ∙ slice_get_past xs (position_or_len p xs) (ltb-false (position_or_len p xs) (length xs) e)

  append_from : (i : ℕ) (xs ys : List X) → position_from p i (xs ++ ys) ≡ option_or (position_from p i xs) (position_from p (i + length xs) ys)
  append_from i [] ys = ap (λ k. position_from p k ys) (omega arith)
  append_from i (x ∷ xs) ys =
      let rest = append_from (i + 1) xs ys in
      let k : (i + 1) + length xs ≡ i + suc (length xs) = omega arith in
      both (p x) i _ _ _ (rest ∙ ap (λ n. option_or (position_from p (i + 1) xs) (position_from p n ys)) k)

  -- among the first ones, or behind them
  pub index_append : (xs : List X) (y : X) → position p (xs ++ y ∷ []) ≡ option_or (position p xs) (cond (p y) (Some (length xs)) None)
  index_append xs y = position_from-zero p (xs ++ y ∷ []) ∙ append_from 0 xs (y ∷ [])
      ∙ ap (λ n. option_or (position_from p 0 xs) (position_from p n (y ∷ []))) (zero_plus (length xs))
      ∙ ap (λ o. option_or o (cond (p y) (Some (length xs)) None)) (sym (position_from-zero p xs))

module _ {X Y : Type 0} (p : X → Bool) (f : Y → X) where
  map_from : (i : ℕ) (ys : List Y) → position_from p i (map f ys) ≡ position_from (λ y. p (f y)) i ys
  map_from i [] = refl
  map_from i (y ∷ ys) = ap (λ o. cond (p (f y)) (Some i) o) (map_from (i + 1) ys)

  -- among what is made of each
  pub index_map : (ys : List Y) → position p (map f ys) ≡ position (λ y. p (f y)) ys
  index_map ys = position_from-zero p (map f ys) ∙ map_from 0 ys ∙ sym (position_from-zero (λ y. p (f y)) ys)

-- ---- indices of names

known : {A : Type 0} (f : ℕ → A) (o : Option ℕ) (b : Bool) → is_some o ≡ b → option_map f o ≡ (if b then Some (f (unwrap_or o 0)) else None)
known f None true h = absurd (cc)
known f None false h = refl
known f (Some i) true h = refl
known f (Some i) false h = absurd (cc)

-- what is made of the index of a name, if the name is there
pub known_index : {A : Type 0} (f : ℕ → A) (n : List ℕ) (ns : List (List ℕ)) → option_map f (position (bytes_eq n) ns) ≡ (if has_text n ns then Some (f (index n ns)) else None)
known_index f n ns = known f (position (bytes_eq n) ns) (has_text n ns) (some_index (bytes_eq n) ns)

then_known : {A : Type 0} (f : ℕ → Option A) (o : Option ℕ) (b : Bool) → is_some o ≡ b → option_and_then f o ≡ (if b then f (unwrap_or o 0) else None)
then_known f None true h = absurd (cc)
then_known f None false h = refl
then_known f (Some i) true h = refl
then_known f (Some i) false h = absurd (cc)

pub then_index : {A : Type 0} (f : ℕ → Option A) (n : List ℕ) (ns : List (List ℕ)) → option_and_then f (position (bytes_eq n) ns) ≡ (if has_text n ns then f (index n ns) else None)
then_index f n ns = then_known f (position (bytes_eq n) ns) (has_text n ns) (some_index (bytes_eq n) ns)

or_known : {A : Type 0} (f : ℕ → A) (d : A) (o : Option ℕ) (b : Bool) → is_some o ≡ b → option_map_or f o d ≡ (if b then f (unwrap_or o 0) else d)
or_known f d None true h = absurd (cc)
or_known f d None false h = refl
or_known f d (Some i) true h = refl
or_known f d (Some i) false h = absurd (cc)

pub or_index : {A : Type 0} (f : ℕ → A) (d : A) (n : List ℕ) (ns : List (List ℕ)) → option_map_or f (position (bytes_eq n) ns) d ≡ (if has_text n ns then f (index n ns) else d)
or_index f d n ns = or_known f d (position (bytes_eq n) ns) (has_text n ns) (some_index (bytes_eq n) ns)
