-- The index of the first element that passes, and what is found there.
use Rattle.std.proofs.Common.{◌≡◌, ℕ, ◌<◌, ◌≤◌, Bool, true, false, List, length, Option, Some, None, cond, nat_lt, refl, sym, ap, ◌∙◌, arith, ◌+◌, [], ◌∷◌, ◌++◌, eqb, if◌then◌else◌, inl, inr, length-append, not}
use Rattle.std.proofs.lemmas.List.Sums.{prefix_len-le-length}
use Rattle.std.specs.Prelude.{slice_get}
use Rattle.std.specs.Option.{option_or}
use Rattle.std.specs.List.{find, position, position_or_len}
use Rattle.std.proofs.lemmas.List.Folds.{find_at, position_or_len_push}
use Rattle.std.proofs.lemmas.Option.{slice_get_past}
use Rattle.std.proofs.lemmas.Bool.Decides.{nat_tests}
use Rattle.std.proofs.lemmas.Bool.{cases_Bool}

chosen : (b : Bool) (n i : ℕ) → cond b (Some n) None ≡ Some i → (b ≡ true) × (n ≡ i)
chosen true n i h = (refl, cc)
chosen false n i h = absurd (cc)

missed : (b : Bool) (n : ℕ) → cond b (Some n) None ≡ None → b ≡ false
missed true n h = absurd (cc)
missed false n h = refl

-- at its index stands the first
pub first_there : {A : Type 0} (p : A → Bool) (xs : List A) (i : ℕ) → position p xs ≡ Some i → (i < length xs) × (find p xs ≡ slice_get xs i)
first_there p xs i h =
    let (within, at) = chosen (nat_lt (position_or_len p xs) (length xs)) (position_or_len p xs) i h in
    let less : position_or_len p xs < length xs = grind (arith, nat_tests, within) in
    (omega arith, find_at p xs ∙ ap (slice_get xs) at)

-- if there is no index there is none
pub none_there : {A : Type 0} (p : A → Bool) (xs : List A) → position p xs ≡ None → find p xs ≡ None
none_there p xs h =
    let past = missed (nat_lt (position_or_len p xs) (length xs)) (position_or_len p xs) h in
    let past' : length xs ≤ position_or_len p xs = grind (arith, nat_tests, past) in
    find_at p xs ∙ slice_get_past xs (position_or_len p xs) past'

-- the index of the first of a list, or a last index
abbrev index_in : ℕ → ℕ → Option ℕ
index_in i n = cond (nat_lt i n) (Some i) None

one_more : (here : Bool) (i n : ℕ) → i ≤ n → index_in (cond (eqb i n) (n + cond here 0 1) i) (n + 1) ≡ option_or (index_in i n) (if here then Some n else None)
one_more here i n le =
    elim (cases_Bool (eqb i n)) [
      | inl e ↦
          (let same : i ≡ n = grind (arith, nat_tests, e) in
          let out : nat_lt i n ≡ false = grind (arith, nat_tests, same) in
          rw (e, out) (last here))
      | inr d ↦
          (let in' : nat_lt i n ≡ true = grind (arith, nat_tests, d) in
          let in'' : nat_lt i (n + 1) ≡ true = grind (arith, nat_tests, d) in
          rw (d, in', in'') refl)
    ]
  where
    last : (b : Bool) → index_in (n + cond b 0 1) (n + 1) ≡ (if b then Some n else None)
    last true = let in' : nat_lt (n + 0) (n + 1) ≡ true = grind (arith, nat_tests) in let e : n + 0 ≡ n = omega arith in rw (in', e) refl
    last false = let out : nat_lt (n + 1) (n + 1) ≡ false = grind (arith, nat_tests) in rw out refl

-- the index of the first among one element more
pub index_more : {A : Type 0} (p : A → Bool) (xs : List A) (x : A) → position p (xs ++ x ∷ []) ≡ option_or (position p xs) (if p x then Some (length xs) else None)
index_more p xs x =
    let le : position_or_len p xs ≤ length xs = prefix_len-le-length (λ y. not (p y)) xs in
    let size : length (xs ++ x ∷ []) ≡ length xs + 1 = length-append xs (x ∷ []) in
    (λ i. index_in (position_or_len_push p xs x i) (size i)) ∙ one_more (p x) (position_or_len p xs) (length xs) le

-- a table gets an index for a key that it doesn't have
pub first_put : (b c : Bool) (old new : Option ℕ) (index : ℕ) → b ≡ c → new ≡ cond b (Some index) old → (c ≡ true → old ≡ None) → new ≡ option_or old (if c then Some index else None)
first_put b true old new index e h absent = h ∙ rw (e, absent refl) refl
first_put b false old new index e h absent = h ∙ rw e (or_none old)
  where
    or_none : (o : Option ℕ) → o ≡ option_or o None
    or_none None = refl
    or_none (Some n) = refl

-- a table keeps the index of a key that it has
pub first_kept : (c : Bool) (old : Option ℕ) (index : ℕ) → (c ≡ true → old ≡ None → ⊥) → old ≡ option_or old (if c then Some index else None)
first_kept true None index there = absurd (there refl refl)
first_kept false None index there = refl
first_kept c (Some n) index there = refl

-- the index of the first, if the table got one for a new last element
pub index_put : {A : Type 0} (test : A → Bool) (xs ys : List A) (x : A) (b : Bool) (index : ℕ) (old new : Option ℕ)
    → new ≡ option_or old (if b then Some index else None) → old ≡ position test xs → b ≡ test x → index ≡ length xs → ys ≡ xs ++ x ∷ []
    → new ≡ position test ys
index_put test xs ys x b index old new put before here end more =
    put ∙ (λ i. option_or (before i) (if here i then Some (end i) else None)) ∙ sym (index_more test xs x) ∙ ap (position test) (sym more)
