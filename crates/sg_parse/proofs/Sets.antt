-- Sets of indices, as names join them.
use Rattle.std.proofs.Common.{◌≡◌, ℕ, suc, ◌+◌, ◌<◌, ◌≤◌, ◌==◌, nat_le, nat_lt, not, Bool, true, false, ◌&&◌, ◌||◌, List, [], ◌∷◌, length, refl, sym, ap, ◌∙◌, inl, inr, arith}
use Rattle.std.specs.List.{list_all}
use Rattle.std.proofs.lemmas.Bool.{eq-eqb, cases_Bool, not-true, and_parts}
use Rattle.std.proofs.lemmas.Bool.Decides.{nat_tests}
use Rattle.sg_base.specs.Sets.{with_member}
use Rattle.sg_base.proofs.SetLaws.{is_in-filter}
use Rattle.sg_model.specs.Lists.{is_in, rises_from}
use Rattle.sg_model.proofs.Small.{or_true}
use Rattle.sg_protocol.specs.Graph.{AreNumbers}
use Rattle.sg_graph.proofs.Sets.{AreNumbers-with_member, AreNumbers-none, number_below}
use Rattle.sg_parse.specs.Grammar.{IsOrderOf, differ}

-- the numbers of a set with one more
pub is_in-with : (width k x n : ℕ) (set : List ℕ) → AreNumbers k set → x < k → k ≤ width → is_in n (with_member width set x) ≡ (is_in n set || (x == n))
unfolding with_member
is_in-with width k x n set h l w =
    is_in-filter (λ y. (y == x) || is_in y set) 0 width n ∙ pick (is_in n set) refl
  where
    pick : (b : Bool) → is_in n set ≡ b → ((nat_le 0 n && nat_lt n (0 + width)) && ((n == x) || b)) ≡ (b || (x == n))
    pick true e = (let below : n < k = number_below k n set h e in let low : nat_lt n (0 + width) ≡ true = grind (arith, nat_tests, below) in grind (arith, nat_tests, low))
    pick false e = elim (cases_Bool (x == n)) [
      | inl y ↦ (let low : nat_lt n (0 + width) ≡ true = grind (arith, nat_tests, y) in grind (arith, nat_tests, low, y))
      | inr d ↦ (let o : (n == x) ≡ false = grind (arith, nat_tests, d) in rw (d, o) (grind (arith, nat_tests)))
    ]

-- a list with an element isn't empty
pub some-in : (n : ℕ) (xs : List ℕ) → is_in n xs ≡ true → 1 ≤ length xs
some-in n [] h = absurd (cc)
some-in n (x ∷ xs) h = omega arith

-- a number of rising numbers is no less than where they begin
least_in : (least n : ℕ) (xs : List ℕ) → rises_from least xs ≡ true → is_in n xs ≡ true → least ≤ n
least_in least n [] h i = absurd (cc)
least_in least n (x ∷ xs) h i =
    let parts = and_parts (not (nat_lt x least)) (rises_from (suc x) xs) h in
    let low : nat_lt x least ≡ false = not-true (nat_lt x least) parts.0 in
    elim (cases_Bool (x == n)) [
      | inl e ↦ grind (arith, nat_tests, e, low)
      | inr d ↦ (let l : suc x ≤ n = least_in (suc x) n xs parts.1 (rw d at i) in grind (arith, nat_tests, l, low))
    ]

-- rising numbers are known by which they are
pub rising-same : (least : ℕ) (xs ys : List ℕ) → rises_from least xs ≡ true → rises_from least ys ≡ true → ((n : ℕ) → is_in n xs ≡ is_in n ys) → xs ≡ ys
rising-same least [] [] a b same = refl
rising-same least [] (y ∷ ys) a b same =
    let e : (y == y) ≡ true = eq-eqb y y refl in
    let there : is_in y (y ∷ ys) ≡ true = rw e refl in
    let no : false ≡ is_in y (y ∷ ys) = same y in
    absurd (cc)
rising-same least (x ∷ xs) [] a b same =
    let e : (x == x) ≡ true = eq-eqb x x refl in
    let there : is_in x (x ∷ xs) ≡ true = rw e refl in
    let no : is_in x (x ∷ xs) ≡ false = same x in
    absurd (cc)
rising-same least (x ∷ xs) (y ∷ ys) a b same =
    let pa = and_parts (not (nat_lt x least)) (rises_from (suc x) xs) a in
    let pb = and_parts (not (nat_lt y least)) (rises_from (suc y) ys) b in
    let ex : (x == x) ≡ true = eq-eqb x x refl in
    let ey : (y == y) ≡ true = eq-eqb y y refl in
    let here_x : is_in x (x ∷ xs) ≡ true = rw ex refl in
    let here_y : is_in y (y ∷ ys) ≡ true = rw ey refl in
    let in_y : is_in x (y ∷ ys) ≡ true = sym (same x) ∙ here_x in
    let in_x : is_in y (x ∷ xs) ≡ true = same y ∙ here_y in
    let up : y ≤ x = least_first y x ys pb.1 in_y in
    let down : x ≤ y = least_first x y xs pa.1 in_x in
    let head : x ≡ y = omega (arith, up, down) in
    rw head (ap (λ l. y ∷ l) (rising-same (suc y) xs ys (rw head at pa.1) pb.1 (λ n. tail n x y xs ys head pa.1 pb.1 (same n))))
  where
    least_first : (m n : ℕ) (ms : List ℕ) → rises_from (suc m) ms ≡ true → is_in n (m ∷ ms) ≡ true → m ≤ n
    least_first m n ms r i = elim (cases_Bool (m == n)) [
      | inl e ↦ grind (arith, nat_tests, e)
      | inr d ↦ (let l : suc m ≤ n = least_in (suc m) n ms r (rw d at i) in omega (arith, l))
    ]

    tail : (n x y : ℕ) (xs ys : List ℕ) → x ≡ y → rises_from (suc x) xs ≡ true → rises_from (suc y) ys ≡ true → is_in n (x ∷ xs) ≡ is_in n (y ∷ ys) → is_in n xs ≡ is_in n ys
    tail n x y xs ys head a b same = elim (cases_Bool (y == n)) [
      | inl e ↦
          (let k : y ≡ n = grind (arith, nat_tests, e) in
          let xa : is_in n xs ≡ false = away n (suc x) xs a (omega (arith, k, head)) in
          let ya : is_in n ys ≡ false = away n (suc y) ys b (omega (arith, k)) in
          xa ∙ sym ya)
      | inr d ↦ (let e : (x == n) ≡ false = rw head d in rw (d, e) at same)
    ]
      where
        away : (n least : ℕ) (zs : List ℕ) → rises_from least zs ≡ true → n < least → is_in n zs ≡ false
        away n least zs r l = elim (cases_Bool (is_in n zs)) [
          | inl y ↦ (let m : least ≤ n = least_in least n zs r y in absurd (omega (arith, l, m)))
          | inr z ↦ z
        ]

-- a set with the numbers of a list
abbrev pub joined_all : ℕ → List ℕ → List ℕ → List ℕ
joined_all width set [] = set
joined_all width set (x ∷ xs) = joined_all width (with_member width set x) xs

-- which numbers these are
pub is_in-joined_all : (width k : ℕ) (set order : List ℕ) → AreNumbers k set → k ≤ width → ((n : ℕ) → is_in n order ≡ true → n < k)
    → ((n : ℕ) → is_in n (joined_all width set order) ≡ (is_in n set || is_in n order)) × AreNumbers k (joined_all width set order)
is_in-joined_all width k set [] a w below = (λ n. or_false (is_in n set), a)
  where
    or_false : (b : Bool) → b ≡ (b || false)
    or_false true = refl
    or_false false = refl
is_in-joined_all width k set (x ∷ xs) a w below =
    let e : (x == x) ≡ true = eq-eqb x x refl in
    let l : x < k = below x (rw e refl) in
    let rest = is_in-joined_all width k (with_member width set x) xs (AreNumbers-with_member width k x set a l) w (λ n i. below n (rw i (or_true (x == n)))) in
    (λ n. rest.0 n ∙ rw (is_in-with width k x n set a l w) (or_assoc (is_in n set) (x == n) (is_in n xs)), rest.1)
  where
    or_assoc : (a b c : Bool) → ((a || b) || c) ≡ (a || (b || c))
    or_assoc true b c = refl
    or_assoc false b c = refl

-- joining the numbers of a set in any order gives the set
pub joined_order : (width k : ℕ) (set order : List ℕ) → AreNumbers k set → k ≤ width → IsOrderOf set order → joined_all width [] order ≡ set
joined_order width k set order a w is =
    let all = is_in-joined_all width k [] order (AreNumbers-none k) w (λ n i. number_below k n set a (sym (is.same n) ∙ i)) in
    rising-same 0 (joined_all width [] order) set (and_parts (rises_from 0 (joined_all width [] order)) (list_all (λ x. nat_lt x k) (joined_all width [] order)) all.1).0
    (and_parts (rises_from 0 set) (list_all (λ x. nat_lt x k) set) a).0 (λ n. all.0 n ∙ is.same n)

-- rising numbers differ
pub rising-differ : (least : ℕ) (xs : List ℕ) → rises_from least xs ≡ true → differ xs ≡ true
rising-differ least [] h = refl
rising-differ least (x ∷ xs) h =
    let parts = and_parts (not (nat_lt x least)) (rises_from (suc x) xs) h in
    let out : is_in x xs ≡ false = elim (cases_Bool (is_in x xs)) [
      | inl y ↦ (let m : suc x ≤ x = least_in (suc x) x xs parts.1 y in absurd (omega (arith, m)))
      | inr z ↦ z
    ] in
    rw (out, rising-differ (suc x) xs parts.1) refl
