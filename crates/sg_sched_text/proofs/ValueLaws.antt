-- Variables that differ, and values in rising number.
use Rattle.std.proofs.Common.{◌≡◌, ℕ, suc, ◌+◌, ◌-◌, ◌<◌, ◌==◌, Bool, true, false, ◌&&◌, List, [], ◌∷◌, map, length, drop, get_or, refl, sym, ap, ◌∙◌, arith, filter_map, if◌then◌else◌}
use Rattle.std.specs.Prelude.{Option, Some, None, option_map, option_and_then, slice_get}
use Rattle.std.specs.List.{list_all, cons_option}
use Rattle.std.proofs.lemmas.Bool.{eqb-true}
use Rattle.std.proofs.lemmas.List.{length-map}
use Rattle.std.proofs.lemmas.Option.{slice_get-get_or, get_or_from_slice_get}
use Rattle.sg_model.specs.Last.{Map}
use Rattle.sg_model.specs.Lists.{has_text, range_from, value_at, in_order}
use Rattle.sg_model.specs.Names.{Name}
use Rattle.sg_model.specs.Values.{Value}
use Rattle.sg_model.proofs.Small.{drop_at}
use Rattle.sg_protocol.specs.Graph.{Graph}
use Rattle.sg_sched.specs.Format.LineContents.{Assignment}
use Rattle.sg_sched.specs.Format.Values.{value_of}
use Rattle.sg_sched.specs.Format.Items.{variables_of, index}
use Rattle.sg_sched.specs.Format.Numbered.{written}
use Rattle.sg_sched.specs.Format.Faults.{knows_variable}
use Rattle.sg_sched_text.specs.Adding.{known_values}
use Rattle.sg_sched_text.specs.Numbers.{all_made, number_of, numbers_of, numbered, from_number}
use Rattle.sg_sched_text.proofs.Indices.{known_index}

-- ---- in rising number

abbrev one : Map Value → ℕ → Option (ℕ × Value)
one m x = option_map (λ v. (x, v)) (value_at m x)

next : (x : ℕ) → x < 32 → range_from x (32 - x) ≡ x ∷ range_from (x + 1) (32 - (x + 1))
next x h =
    let k : 32 - x ≡ suc (32 - (x + 1)) = omega (arith, h) in
    let j : suc x ≡ x + 1 = omega arith in
    ap (range_from x) k ∙ ap (λ n. x ∷ range_from n (32 - (x + 1))) j

pub next_none : (m : Map Value) (x : ℕ) → x < 32 → value_at m x ≡ None → from_number x m ≡ from_number (x + 1) m
unfolding from_number
next_none m x h e =
    ap (filter_map (one m)) (next x h) ∙ ap (λ o. cons_option (option_map (λ v. (x, v)) o) (filter_map (one m) (range_from (x + 1) (32 - (x + 1))))) e

pub next_some : (m : Map Value) (x : ℕ) (v : Value) → x < 32 → value_at m x ≡ Some v → from_number x m ≡ (x, v) ∷ from_number (x + 1) m
unfolding from_number
next_some m x v h e =
    ap (filter_map (one m)) (next x h) ∙ ap (λ o. cons_option (option_map (λ v. (x, v)) o) (filter_map (one m) (range_from (x + 1) (32 - (x + 1))))) e

pub at_end : (m : Map Value) → from_number 32 m ≡ []
unfolding from_number
at_end m = refl

whole : (m : Map Value) → from_number 0 m ≡ in_order 32 m
unfolding from_number
whole m = refl

-- ---- what is made of all

cons_all : {B : Type 0} (b c : Bool) (y : B) (ys : List B) → option_and_then (λ y. option_map (λ ys. y ∷ ys) (if c then Some ys else None)) (if b then Some y else None) ≡ (if b && c then Some (y ∷ ys) else None)
cons_all true true y ys = refl
cons_all true false y ys = refl
cons_all false c y ys = refl

pub all_is : {A B : Type 0} (f : A → Option B) (t : A → Bool) (v : A → B) → ((x : A) → f x ≡ (if t x then Some (v x) else None)) → (xs : List A)
    → all_made f xs ≡ (if list_all t xs then Some (map v xs) else None)
all_is f t v each [] = refl
all_is f t v each (x ∷ xs) =
    (λ i. option_and_then (λ y. option_map (λ ys. y ∷ ys) (all_is f t v each xs i)) (each x i)) ∙ cons_all (t x) (list_all t xs) (v x) (map v xs)

id_map : {A : Type 0} (o : Option A) → option_map (λ x. x) o ≡ o
id_map None = refl
id_map (Some x) = refl

number_is : (names : List Name) (v : Assignment) → number_of names v ≡ (if has_text v.variable names then Some (index v.variable names) else None)
number_is names v = sym (id_map (number_of names v)) ∙ known_index (λ n. n) v.variable names

numbers_are : (names : List Name) (vs : List Assignment) → numbers_of names vs ≡ (if list_all (λ v. has_text v.variable names) vs then Some (map (λ v. index v.variable names) vs) else None)
numbers_are names vs = all_is (number_of names) (λ v. has_text v.variable names) (λ v. index v.variable names) (number_is names) vs

pub as_many : (names : List Name) (vs : List Assignment) (ns : List ℕ) → numbers_of names vs ≡ Some ns → length ns ≡ length vs
as_many names vs ns h = by (list_all (λ v. has_text v.variable names) vs) (sym (numbers_are names vs) ∙ h)
  where
    by : (b : Bool) → (if b then Some (map (λ v. index v.variable names) vs) else None) ≡ Some ns → length ns ≡ length vs
    by true e = let same : map (λ v. index v.variable names) vs ≡ ns = cc in ap length (sym same) ∙ length-map vs (λ v. index v.variable names)
    by false e = absurd (cc)

pairs_are : (g : Option Graph) (vs : List Assignment) → numbered (map (λ v. index v.variable (variables_of g)) vs) vs ≡ map (written g) vs
pairs_are g [] = refl
pairs_are g (v ∷ vs) = ap (λ ws. written g v ∷ ws) (pairs_are g vs)

pub by_numbers : (g : Option Graph) (vs : List Assignment) → option_map (λ ns. from_number 0 (numbered ns vs)) (numbers_of (variables_of g) vs) ≡ known_values g vs
by_numbers g vs = ap (option_map (λ ns. from_number 0 (numbered ns vs))) (numbers_are (variables_of g) vs) ∙ by (list_all (λ v. knows_variable g v.variable) vs)
  where
    by : (b : Bool) → option_map (λ ns. from_number 0 (numbered ns vs)) (if b then Some (map (λ v. index v.variable (variables_of g)) vs) else None)
        ≡ (if b then Some (in_order 32 (map (written g) vs)) else None)
    by true = ap (λ x. Some x) (whole (numbered (map (λ v. index v.variable (variables_of g)) vs) vs) ∙ ap (in_order 32) (pairs_are g vs))
    by false = refl

-- ---- what stands in the place of a number

pub other_number : (n x : ℕ) → (n ≡ x → ⊥) → (n == x) ≡ false
other_number n x h = by (n == x) refl
  where
    by : (b : Bool) → (n == x) ≡ b → b ≡ false
    by false e = refl
    by true e = absurd (h (eqb-true n x e))

pub is_indexed : (ns : List ℕ) (vs : List Assignment) (x i n : ℕ) → i < length ns → length ns ≡ length vs → n ≡ get_or ns i n
    → value_at (numbered (drop i ns) (drop i vs)) x ≡ (if n == x then option_map (λ v. value_of v.value) (slice_get vs i) else value_at (numbered (drop (i + 1) ns) (drop (i + 1) vs)) x)
is_indexed ns vs x i n h same e =
    let w : i < length vs = omega (arith, h, same) in
    let v : Assignment = get_or vs i (record { variable = []; value = [] }) in
    let s : slice_get vs i ≡ Some v = slice_get-get_or vs i (record { variable = []; value = [] }) w in
    let f : v ≡ get_or vs i v = sym (get_or_from_slice_get vs i v v s) in
    (λ k. value_at (numbered (drop_at ns i n h e k) (drop_at vs i v w f k)) x)
    ∙ ap (λ (o : Option Assignment). if n == x then option_map (λ v. value_of v.value) o else value_at (numbered (drop (i + 1) ns) (drop (i + 1) vs)) x) (sym s)
