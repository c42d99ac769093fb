-- Small lemmas that many proofs open with: on answers, bytes, options, lists, what holds of each element, and ranges of numbers.
use Rattle.std.specs.Prelude.{◌≡◌, ◌≢◌, ℕ, zero, suc, ◌+◌, ◌<◌, ◌≤◌, ◌==◌, nat_lt, ◌&&◌, ◌||◌, ◌⊎◌, Bool, true, false, List, [], ◌∷◌, ◌++◌, map, filter, take, drop, length, get_or, bytes_eq, refl, Option, Some, None, slice_get, flat_map, ◌*◌, IsSomeAnd, IfSome, option_map}
use Rattle.std.specs.List.{list_all, AllByRecursion}
use Rattle.std.proofs.Common.{◌∙◌, sym, ap, subst, inl, inr, arith, length-append}
use Rattle.std.proofs.lemmas.Bool.{cases_Bool, and_parts, or_parts, eqb-true}
use Rattle.std.proofs.lemmas.Bool.Decides.{nat_tests, Decides-like, same_from_decides}
use Rattle.std.proofs.lemmas.Slice.Eq.{bytes_eq-Decides}
use Rattle.sg_model.specs.Last.{last}
use Rattle.sg_model.specs.Lists.{range_from, first_some, keys_of}
use Rattle.std.proofs.Math.Nat.{suc-mul}

-- two truths of one answer, and the two cases of an option
pub contradicts : {b : Bool} → b ≡ true → b ≡ false → ⊥
contradicts t f = absurd (let z : true ≡ false = sym t ∙ f in cc)

pub clash : {A : Type 0} (b : Bool) → b ≡ true → b ≡ false → A
clash b t f = cc

pub cases_Option : {A : Type 0} (o : Option A) → (o ≡ None) ⊎ ((x : A) × (o ≡ Some x))
cases_Option None = inl refl
cases_Option (Some x) = inr (x, refl)

pub map_none : {A B : Type 0} (f : A → B) (o : Option A) → option_map f o ≡ None → o ≡ None
map_none f None h = refl
map_none f (Some x) h = absurd (cc)

-- parts of answers
pub or_false : (b : Bool) → (b || false) ≡ b
or_false true = refl
or_false false = refl

pub or_true : (b : Bool) → (b || true) ≡ true
or_true true = refl
or_true false = refl

pub or_assoc : (a b c : Bool) → (a || (b || c)) ≡ ((a || b) || c)
or_assoc true b c = refl
or_assoc false b c = refl

pub first_false : (a b : Bool) → (a || b) ≡ false → a ≡ false
first_false a b h = (or_parts a b h).0

pub second_false : (a b : Bool) → (a || b) ≡ false → b ≡ false
second_false a b h = (or_parts a b h).1

pub and_false : (b : Bool) → (b && false) ≡ false
and_false true = refl
and_false false = refl

pub and_true : (b : Bool) → (b && true) ≡ b
and_true true = refl
and_true false = refl

pub and_left : (a b : Bool) → (a && b) ≡ true → a ≡ true
and_left true b h = refl
and_left false b h = h

pub and_right : (a b : Bool) → (a && b) ≡ true → b ≡ true
and_right true b h = h
and_right false b h = cc

-- two numbers are the same or not
pub same_or_not : (a b : ℕ) → (a ≡ b) ⊎ (a ≢ b)
same_or_not a b = elim (cases_Bool (a == b)) [ inl y ↦ inl (grind (arith, nat_tests, y)) | inr n ↦ inr (λ e. grind (arith, nat_tests, n, e)) ]

pub same_number : (a b : ℕ) → a ≡ b → (a == b) ≡ true
same_number a b h = grind (arith, nat_tests)

-- the equality of numbers goes both ways
pub eqb-swap : (a b : ℕ) → (a == b) ≡ (b == a)
eqb-swap a b = grind (arith, nat_tests)

pub lt_of : (a b : ℕ) → nat_lt a b ≡ true → a < b
lt_of a b h = grind (arith, nat_tests)

pub zero_less : (n : ℕ) → nat_lt 0 (suc n) ≡ true
zero_less n = grind (arith, nat_tests)

-- a number below one more is below, or is it
pub upto : (k n : ℕ) → k < n + 1 → (k < n) ⊎ (k ≡ n)
upto k n u = elim (cases_Bool (nat_lt k n)) [ inl y ↦ inl (grind (arith, nat_tests, y)) | inr z ↦ inr (grind (arith, nat_tests, z)) ]

-- what is some is one thing
pub some_same : {A : Type 0} {x y : A} → Some x ≡ Some y → x ≡ y
some_same h = cc

pub if_any : {A : Type 0} (o : Option A) (P : A → Type 0) → ((x : A) → P x) → IfSome o P
if_any None P f = tt
if_any (Some x) P f = f x

pub none_some : {A : Type 0} (x : A) → None ≡ Some x → ⊥
none_some x e = absurd (cc)

-- bytes
pub same_bytes : (a b : List ℕ) → bytes_eq a b ≡ true → a ≡ b
same_bytes a b h = (bytes_eq-Decides a b).0 h

pub bytes_same : (a b : List ℕ) → a ≡ b → bytes_eq a b ≡ true
bytes_same a b h = (bytes_eq-Decides a b).1 h

pub bytes_refl : (t : List ℕ) → bytes_eq t t ≡ true
bytes_refl t = (bytes_eq-Decides t t).1 refl

pub bytes_eq-swap : (a b : List ℕ) → bytes_eq a b ≡ bytes_eq b a
bytes_eq-swap a b = same_from_decides _ _ (bytes_eq-Decides a b) (Decides-like _ sym sym (bytes_eq-Decides b a))

pub bytes_eq-flip : (a b : List ℕ) → bytes_eq a b ≡ false → bytes_eq b a ≡ false
bytes_eq-flip a b h = bytes_eq-swap b a ∙ h

-- lists
pub none_parts : {F : Type 0} (o : Option F) (os : List (Option F)) → first_some (o ∷ os) ≡ None → (o ≡ None) × (first_some os ≡ None)
none_parts None os h = (refl, h)
none_parts (Some x) os h = absurd (cc)

pub both_nil : {A : Type 0} (xs ys : List A) → xs ++ ys ≡ [] → (xs ≡ []) × (ys ≡ [])
both_nil [] ys e = (refl, e)
both_nil (x ∷ xs) ys e = absurd (cc)

pub no_last : {A : Type 0} (xs : List A) → last xs ≡ None → xs ≡ []
no_last [] e = refl
no_last (x ∷ xs) e = absurd (cc)

pub length-more : {A : Type 0} (xs : List A) (x : A) → length (xs ++ x ∷ []) ≡ length xs + 1
length-more xs x = length-append xs (x ∷ [])

-- an element of a list is the same whatever is asked for in its place
pub same_at : {A : Type 0} (xs : List A) (i : ℕ) (d e : A) → i < length xs → get_or xs i d ≡ get_or xs i e
same_at [] i d e l = absurd (omega arith)
same_at (x ∷ xs) zero d e l = refl
same_at (x ∷ xs) (suc i) d e l = same_at xs i d e (omega arith)

pub length_map : {A B : Type 0} (f : A → B) (xs : List A) → length (map f xs) ≡ length xs
length_map f [] = refl
length_map f (x ∷ xs) = ap suc (length_map f xs)

pub heads : {A : Type 0} (x y : A) (xs ys : List A) → x ∷ xs ≡ y ∷ ys → x ≡ y
heads x y xs ys e = cc

pub tails : {A : Type 0} (x y : A) (xs ys : List A) → x ∷ xs ≡ y ∷ ys → xs ≡ ys
tails x y xs ys e = cc

pub not_empty : {A : Type 0} (xs : List A) (y : A) (ys : List A) → xs ++ y ∷ ys ≡ [] → ⊥
not_empty [] y ys e = absurd (cc)
not_empty (x ∷ xs) y ys e = absurd (cc)

pub right_empty : {A : Type 0} (xs : List A) (y : A) → xs ++ y ∷ [] ≡ [] → ⊥
right_empty xs y e = not_empty xs y [] e

-- what stands behind a part
pub at_length : {A : Type 0} (xs : List A) (y : A) (ys : List A) → slice_get (xs ++ y ∷ ys) (length xs) ≡ Some y
at_length [] y ys = refl
at_length (x ∷ xs) y ys = at_length xs y ys

-- what stands behind an index, and behind the end
pub drop_from : {A : Type 0} (xs : List A) (i : ℕ) (x : A) → i < length xs → x ≡ get_or xs i x → drop i xs ≡ x ∷ drop (suc i) xs
drop_from [] i x h e = absurd (omega arith)
drop_from (y ∷ ys) zero x h e = ap (λ z. z ∷ ys) (sym e)
drop_from (y ∷ ys) (suc i) x h e = drop_from ys i x (omega arith) e

pub drop_at : {A : Type 0} (xs : List A) (i : ℕ) (x : A) → i < length xs → x ≡ get_or xs i x → drop i xs ≡ x ∷ drop (i + 1) xs
drop_at xs i x h e = let k : suc i ≡ i + 1 = omega arith in drop_from xs i x h e ∙ ap (λ n. x ∷ drop n xs) k

pub drop_end : {A : Type 0} (xs : List A) (i : ℕ) → length xs ≤ i → drop i xs ≡ []
drop_end [] zero h = refl
drop_end [] (suc i) h = refl
drop_end (x ∷ xs) zero h = absurd (omega arith)
drop_end (x ∷ xs) (suc i) h = drop_end xs i (omega arith)

pub map_same : {A B : Type 0} (f h : A → B) (xs : List A) → ((x : A) → f x ≡ h x) → map f xs ≡ map h xs
map_same f h [] e = refl
map_same f h (x ∷ xs) e = ap (λ z. z ∷ map f xs) (e x) ∙ ap (λ l. h x ∷ l) (map_same f h xs e)

-- the keys of pairs
pub keys_of_pairs : {A : Type 0} (f : ℕ → A) (xs : List ℕ) → keys_of (map (λ x. (x, f x)) xs) ≡ xs
keys_of_pairs f [] = refl
keys_of_pairs f (x ∷ xs) = ap (λ l. x ∷ l) (keys_of_pairs f xs)

pub length-flat : {A : Type 0} (n : ℕ) (f : A → List ℕ) (xs : List A) → AllByRecursion (λ x. length (f x) ≤ n) xs → length (flat_map f xs) ≤ length xs * n
length-flat n f [] a = omega arith
length-flat n f (x ∷ xs) a = let l = length-append (f x) (flat_map f xs) in let m = length-flat n f xs a.1 in let h = a.0 in let e : suc (length xs) * n ≡ length xs * n + n = suc-mul (length xs) n in omega (arith, l, m, h, e)

pub length_filter : {A : Type 0} (q : A → Bool) (xs : List A) → length (filter q xs) ≤ length xs
length_filter q [] = omega arith
length_filter q (x ∷ xs) = elim (cases_Bool (q x)) [ inl e ↦ rw e (let l = length_filter q xs in omega (arith, l)) | inr e ↦ rw e (let l = length_filter q xs in omega (arith, l)) ]

pub take_most : {A : Type 0} (n : ℕ) (t : List A) → length (take n t) ≤ n
take_most zero t = omega arith
take_most (suc n) [] = omega arith
take_most (suc n) (x ∷ t) = let l = take_most n t in omega (arith, l)

-- what holds of each element
pub all-append : {A : Type 0} (P : A → Type 0) (xs ys : List A) → AllByRecursion P xs → AllByRecursion P ys → AllByRecursion P (xs ++ ys)
all-append P [] ys a b = b
all-append P (x ∷ xs) ys a b = (a.0, all-append P xs ys a.1 b)

pub all-both : {A : Type 0} (P Q : A → Type 0) (xs : List A) → AllByRecursion P xs → AllByRecursion Q xs → AllByRecursion (λ x. P x × Q x) xs
all-both P Q [] a b = tt
all-both P Q (x ∷ xs) a b = ((a.0, b.0), all-both P Q xs a.1 b.1)

pub all-parts : {A : Type 0} (P : A → Type 0) (xs ys : List A) → AllByRecursion P (xs ++ ys) → AllByRecursion P xs × AllByRecursion P ys
all-parts P [] ys a = (tt, a)
all-parts P (x ∷ xs) ys a = let r = all-parts P xs ys a.1 in ((a.0, r.0), r.1)

pub all-right : {A : Type 0} (P : A → Type 0) (xs ys : List A) → AllByRecursion P (xs ++ ys) → AllByRecursion P ys
all-right P [] ys a = a
all-right P (x ∷ xs) ys a = all-right P xs ys a.1

pub all_end : {A : Type 0} (P : A → Type 0) (xs : List A) (y : A) → AllByRecursion P (xs ++ y ∷ []) → P y
all_end P [] y a = a.0
all_end P (x ∷ xs) y a = all_end P xs y a.1

pub all_weaker : {A : Type 0} (P Q : A → Type 0) → ((x : A) → P x → Q x) → (xs : List A) → AllByRecursion P xs → AllByRecursion Q xs
all_weaker P Q f [] a = tt
all_weaker P Q f (x ∷ xs) a = (f x a.0, all_weaker P Q f xs a.1)

pub some_weaker : {A : Type 0} (P Q : A → Type 0) (o : Option A) → ((x : A) → P x → Q x) → IsSomeAnd o P → IsSomeAnd o Q
some_weaker P Q None f h = absurd h
some_weaker P Q (Some x) f h = f x h

pub all_filter : {A : Type 0} (P : A → Type 0) (q : A → Bool) (xs : List A) → AllByRecursion P xs → AllByRecursion P (filter q xs)
all_filter P q [] a = tt
all_filter P q (x ∷ xs) a = elim (cases_Bool (q x)) [ inl e ↦ rw e (a.0, all_filter P q xs a.1) | inr e ↦ rw e (all_filter P q xs a.1) ]

pub all_tests : {A : Type 0} (p : A → Bool) (xs : List A) → list_all p xs ≡ true → AllByRecursion (λ x. p x ≡ true) xs
all_tests p [] h = tt
all_tests p (x ∷ xs) h = let q = and_parts (p x) (list_all p xs) h in (q.0, all_tests p xs q.1)

pub tests_all : {A : Type 0} (p : A → Bool) (xs : List A) → AllByRecursion (λ x. p x ≡ true) xs → list_all p xs ≡ true
tests_all p [] a = refl
tests_all p (x ∷ xs) a = rw a.0 (tests_all p xs a.1)

pub all_below : (n : ℕ) (xs : List ℕ) → list_all (λ k. nat_lt k n) xs ≡ true → AllByRecursion (λ x. x < n) xs
all_below n [] h = tt
all_below n (x ∷ xs) h = let ps = and_parts (nat_lt x n) (list_all (λ k. nat_lt k n) xs) h in (grind (arith, nat_tests, ps.0), all_below n xs ps.1)

-- what agrees on a range of numbers, and at each number of it
pub range_same : {A : Type 0} (f h : ℕ → A) (k j : ℕ) → ((x : ℕ) → x < k + j → f x ≡ h x) → map f (range_from k j) ≡ map h (range_from k j)
range_same f h k zero e = refl
range_same f h k (suc j) e = ap (λ z. z ∷ map f (range_from (suc k) j)) (e k (omega arith)) ∙ ap (λ l. h k ∷ l) (range_same f h (suc k) j (λ x l. e x (omega (arith, l))))

pub range_at : {A : Type 0} (f h : ℕ → A) (k j : ℕ) → map f (range_from k j) ≡ map h (range_from k j) → (x : ℕ) → k ≤ x → x < k + j → f x ≡ h x
range_at f h k zero e x l u = absurd (omega arith)
range_at f h k (suc j) e x l u = elim (cases_Bool (k == x)) [
  | inl d ↦ (let s : k ≡ x = eqb-true k x d in let hd : f k ≡ h k = cc in subst (λ y. f y ≡ h y) s hd)
  | inr d ↦ (let tl : map f (range_from (suc k) j) ≡ map h (range_from (suc k) j) = cc in range_at f h (suc k) j tl x (grind (arith, nat_tests)) (omega arith))
]
