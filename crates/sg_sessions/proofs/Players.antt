-- The principals and their keys: their names are names and differ, and no pair has two keys.
use Rattle.std.proofs.Common.{◌≡◌, ◌≢◌, ℕ, zero, suc, ◌+◌, ◌-◌, ◌<◌, ◌≤◌, Bool, true, false, not, ◌||◌, inl, inr, List, [], ◌∷◌, ◌++◌, map, flat_map, length, get_or, replicate, bytes_eq, refl, sym, ap, ◌∙◌, arith}
use Rattle.std.specs.Prelude.{All, AllPairs, ⊤}
use Rattle.std.specs.Fmt.{decimal}
use Rattle.std.specs.List.{AllByRecursion, list_all}
use Rattle.std.proofs.lemmas.Bool.{and_from, cases_Bool}
use Rattle.std.proofs.lemmas.Fmt.{decimal_injective}
use Rattle.std.proofs.lemmas.List.{length-map}
use Rattle.std.proofs.lemmas.List.Elements.{All-from_recursion}
use Rattle.std.proofs.lemmas.List.Kept.{AllPairs-cons}
use Rattle.std.proofs.lemmas.Slice.Eq.{bytes_eq-Decides}
use Rattle.sg_craft.specs.Invariant.{AreApart}
use Rattle.sg_text.proofs.Numbered.{is_name-numbered}
use Rattle.sg_model.proofs.Numbers.{length-range_from}
use Rattle.sg_model.specs.Bytes.{AreBytes}
use Rattle.sg_model.specs.Lists.{all_differ, below, has_text, range_from}
use Rattle.sg_model.specs.Names.{is_name}
use Rattle.sg_protocol.proofs.Spelled.{bytes-zeros, to_bytes}
use Rattle.sg_protocol.specs.IsSchedule.{IsPairKey}
use Rattle.sg_protocol.specs.Schedule.{PairKey}
use Rattle.sg_sessions.specs.Setup.{key_of, keys_for, keys_with_later, player, players}

-- ---- names

-- different numbers have different names
pub other : (i j : ℕ) → i < j → j < 1000 → player i ≢ player j
other i j l u e =
    let same : decimal i ≡ decimal j = cc in
    let one : i ≡ j = decimal_injective i j (omega arith) (omega arith) same in
    omega arith

-- so principals of one name are of one role
pub player_same : (i j : ℕ) → i < 1000 → j < 1000 → player i ≡ player j → i ≡ j
player_same i j l u e = let same : decimal i ≡ decimal j = cc in decimal_injective i j (omega arith) (omega arith) same

-- the principal of a role stands at its index
get_or_row : (k n r : ℕ) → r < n → get_or (map player (range_from k n)) r [] ≡ player (k + r)
get_or_row k zero r l = absurd (omega arith)
get_or_row k (suc n) zero l = ap player (let z : k ≡ k + 0 = omega arith in z)
get_or_row k (suc n) (suc r) l = get_or_row (suc k) n r (omega arith) ∙ ap player (let z : suc k + r ≡ k + suc r = omega arith in z)

pub get_or_players : (n r : ℕ) → r < n → get_or (players n) r [] ≡ player r
get_or_players n r l = get_or_row 0 n r l ∙ ap player (let z : 0 + r ≡ r = omega arith in z)

-- there are as many principals as roles
pub length-players : (n : ℕ) → length (players n) ≡ n
length-players n = length-map (below n) player ∙ length-range_from 0 n

other_test : (i j : ℕ) → i < j → j < 1000 → bytes_eq (player i) (player j) ≡ false
other_test i j l u = elim (cases_Bool (bytes_eq (player i) (player j))) [
  | inl e ↦ absurd (other i j l u ((bytes_eq-Decides (player i) (player j)).0 e))
  | inr e ↦ e
]

neither : (a b : Bool) → a ≡ false → b ≡ false → (a || b) ≡ false
neither a b p q = cc (ap (λ x. x || b) p)

not_later : (i k n : ℕ) → i < k → k + n ≤ 1000 → has_text (player i) (map player (range_from k n)) ≡ false
not_later i k zero l u = refl
not_later i k (suc n) l u = neither (bytes_eq (player i) (player k)) (has_text (player i) (map player (range_from (suc k) n))) (other_test i k l (omega arith)) (not_later i (suc k) n (omega arith) (omega arith))

differ : (k n : ℕ) → k + n ≤ 1000 → all_differ (map player (range_from k n)) ≡ true
differ k zero u = refl
differ k (suc n) u =
    and_from (not (has_text (player k) (map player (range_from (suc k) n)))) (all_differ (map player (range_from (suc k) n)))
    (ap not (not_later k (suc k) n (omega arith) (omega arith))) (differ (suc k) n (omega arith))

pub players_differ : (n : ℕ) → n ≤ 1000 → all_differ (players n) ≡ true
players_differ n u = differ 0 n (omega arith)

named : (k n : ℕ) → k + n ≤ 1000 → list_all is_name (map player (range_from k n)) ≡ true
named k zero u = refl
named k (suc n) u = and_from (is_name (player k)) (list_all is_name (map player (range_from (suc k) n))) (is_name-numbered 112 k refl (omega arith)) (named (suc k) n (omega arith))

pub players_named : (n : ℕ) → n ≤ 1000 → list_all is_name (players n) ≡ true
players_named n u = named 0 n (omega arith)

there : (i k n : ℕ) → k ≤ i → i < k + n → k + n ≤ 1000 → has_text (player i) (map player (range_from k n)) ≡ true
there i k zero l h u = absurd (omega arith)
there i k (suc n) l h u = elim (cases_Bool (bytes_eq (player i) (player k))) [
  | inl e ↦ ap (λ b. b || has_text (player i) (map player (range_from (suc k) n))) e
  | inr e ↦
      let apart : i ≢ k = λ q. (let same : bytes_eq (player i) (player k) ≡ true = (bytes_eq-Decides (player i) (player k)).1 (ap player q) in let z : true ≡ false = sym same ∙ e in cc) in
      ap (λ b. b || has_text (player i) (map player (range_from (suc k) n))) e ∙ there i (suc k) n (omega arith) (omega arith) (omega arith)
]

-- each of the roles has its principal
pub player_there : (i n : ℕ) → i < n → n ≤ 1000 → has_text (player i) (players n) ≡ true
player_there i n h u = there i 0 n (omega arith) (omega arith) (omega arith)

-- ---- keys

all_both : {A : Type 0} (P : A → Type 0) (xs ys : List A) → AllByRecursion P xs → AllByRecursion P ys → AllByRecursion P (xs ++ ys)
all_both P [] ys h k = k
all_both P (x ∷ xs) ys h k = (h.0, all_both P xs ys h.1 k)

key_bytes : (i j : ℕ) → i < 256 → j < 256 → AreBytes 32 (i ∷ j ∷ replicate 30 0)
key_bytes i j a b = (refl, to_bytes (i ∷ j ∷ replicate 30 0) (a, (b, bytes-zeros 30)))

row_keys : (i k n : ℕ) → i < k → k + n ≤ 256 → AllByRecursion IsPairKey (map (key_of i) (range_from k n))
row_keys i k zero l u = tt
row_keys i k (suc n) l u = ((other i k l (omega arith), key_bytes i k (omega arith) (omega arith)), row_keys i (suc k) n (omega arith) (omega arith))

all_rows : (roles k n : ℕ) → k + n ≤ roles → roles ≤ 256 → AllByRecursion IsPairKey (flat_map (keys_with_later roles) (range_from k n))
all_rows roles k zero h u = tt
all_rows roles k (suc n) h u =
    all_both IsPairKey (keys_with_later roles k) (flat_map (keys_with_later roles) (range_from (suc k) n)) (row_keys k (k + 1) (roles - (k + 1)) (omega arith) (omega arith)) (all_rows roles (suc k) n (omega arith) u)

pub keys_are_keys : (roles : ℕ) → roles ≤ 256 → All IsPairKey (keys_for roles)
keys_are_keys roles u = All-from_recursion IsPairKey (keys_for roles) (all_rows roles 0 roles (omega arith) u)

-- each element and each later one
abbrev Pairs : List PairKey → Type 0
Pairs [] = ⊤
Pairs (x ∷ xs) = AllByRecursion (AreApart x) xs × Pairs xs

pairs_of : (xs : List PairKey) → Pairs xs → AllPairs AreApart xs
pairs_of [] h = λ i j d l k. absurd (omega (arith, k))
pairs_of (x ∷ xs) h = AllPairs-cons AreApart x xs (All-from_recursion (AreApart x) xs h.0) (pairs_of xs h.1)

joined : (xs ys : List PairKey) → Pairs xs → Pairs ys → AllByRecursion (λ x. AllByRecursion (AreApart x) ys) xs → Pairs (xs ++ ys)
joined [] ys h k c = k
joined (x ∷ xs) ys h k c = (all_both (AreApart x) xs ys h.0 c.0, joined xs ys h.1 k c.1)

-- keys of one principal
same_row : (i j k n : ℕ) → i < j → j < k → k + n ≤ 1000 → AllByRecursion (AreApart (key_of i j)) (map (key_of i) (range_from k n))
same_row i j k zero l h u = tt
same_row i j k (suc n) l h u = ((inr (other j k h (omega arith)), inl (other i k (omega arith) (omega arith))), same_row i j (suc k) n l (omega arith) (omega arith))

row : (i k n : ℕ) → i < k → k + n ≤ 1000 → Pairs (map (key_of i) (range_from k n))
row i k zero l u = tt
row i k (suc n) l u = (same_row i k (suc k) n l (omega arith) (omega arith), row i (suc k) n (omega arith) (omega arith))

-- and of a later one
cross_row : (i j h k n : ℕ) → i < h → h < k → k + n ≤ 1000 → AllByRecursion (AreApart (key_of i j)) (map (key_of h) (range_from k n))
cross_row i j h k zero l m u = tt
cross_row i j h k (suc n) l m u = ((inl (other i h l (omega arith)), inl (other i k (omega arith) (omega arith))), cross_row i j h (suc k) n l (omega arith) (omega arith))

cross_rows : (roles i j k n : ℕ) → i < k → k + n ≤ roles → roles ≤ 1000 → AllByRecursion (AreApart (key_of i j)) (flat_map (keys_with_later roles) (range_from k n))
cross_rows roles i j k zero l h u = tt
cross_rows roles i j k (suc n) l h u =
    all_both (AreApart (key_of i j)) (keys_with_later roles k) (flat_map (keys_with_later roles) (range_from (suc k) n)) (cross_row i j k (k + 1) (roles - (k + 1)) l (omega arith) (omega arith))
    (cross_rows roles i j (suc k) n (omega arith) (omega arith) u)

cross_all : (roles i j c k n : ℕ) → i < k → k + n ≤ roles → roles ≤ 1000 → AllByRecursion (λ x. AllByRecursion (AreApart x) (flat_map (keys_with_later roles) (range_from k n))) (map (key_of i) (range_from j c))
cross_all roles i j zero k n l h u = tt
cross_all roles i j (suc c) k n l h u = (cross_rows roles i j k n l h u, cross_all roles i (suc j) c k n l h u)

rows : (roles k n : ℕ) → k + n ≤ roles → roles ≤ 1000 → Pairs (flat_map (keys_with_later roles) (range_from k n))
rows roles k zero h u = tt
rows roles k (suc n) h u =
    joined (keys_with_later roles k) (flat_map (keys_with_later roles) (range_from (suc k) n)) (row k (k + 1) (roles - (k + 1)) (omega arith) (omega arith)) (rows roles (suc k) n (omega arith) u)
    (cross_all roles k (k + 1) (roles - (k + 1)) (suc k) n (omega arith) (omega arith) u)

pub keys_apart : (roles : ℕ) → roles ≤ 1000 → AllPairs AreApart (keys_for roles)
keys_apart roles u = pairs_of (keys_for roles) (rows roles 0 roles (omega arith) u)
