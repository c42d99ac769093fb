-- Different labels with their table.
use Rattle.std.proofs.Common.{◌≡◌, ℕ, zero, suc, ◌<◌, ◌≤◌, ◌==◌, Bool, true, false, not, ◌||◌, ◌&&◌, List, [], ◌∷◌, ◌++◌, All, length, get_or, set, replicate, refl, sym, ◌∙◌, ap, inl, inr, arith}
use Rattle.std.proofs.lemmas.Bool.Decides.{nat_tests}
use Rattle.std.proofs.lemmas.Bool.{and_parts, or_parts, eq-eqb}
use Rattle.std.proofs.lemmas.List.{get_or-replicate, get_or_past, length-replicate, length-set, get_or-set_same, get_or-set_other}
use Rattle.sg_model.specs.Lists.{is_in}
use Rattle.sg_model.proofs.Small.{clash, same_or_not, eqb-swap, or_false, or_true}
use Rattle.sg_model.proofs.Numbers.{is_in-more}
use Rattle.sg_claims.specs.Labels.{are_once}
use Rattle.sg_claims.specs.Invariant.{HoldsLabels}
use Rattle.sg_claims.proofs.Cases.{less_or}

-- a table of false has no label
pub listed_none : (size l : ℕ) → get_or (replicate size false) l false ≡ false
listed_none size l =
    elim (less_or l size) [
      | inl y ↦ get_or-replicate size l false false y
      | inr n ↦ get_or_past (replicate size false) l false (omega (arith, length-replicate size false))
    ]

pub empty_holds : HoldsLabels [] (replicate 512 false)
empty_holds = record { once = refl; size = length-replicate 512 false; entries = λ l. listed_none 512 l }

-- a label that isn't there is different from the others
once_more : (xs : List ℕ) (l : ℕ) → are_once xs ≡ true → is_in l xs ≡ false → are_once (xs ++ l ∷ []) ≡ true
once_more [] l o n = refl
once_more (x ∷ xs) l o n =
    let p = and_parts (not (is_in x xs)) (are_once xs) o in
    let q = or_parts (x == l) (is_in l xs) n in
    let e : is_in x (xs ++ l ∷ []) ≡ (is_in x xs || false) = is_in-more x l xs ∙ ap (λ b. is_in x xs || b) (eqb-swap l x ∙ q.0) in
    let e' : is_in x (xs ++ l ∷ []) ≡ is_in x xs = e ∙ or_false (is_in x xs) in
    both (not (is_in x (xs ++ l ∷ []))) (are_once (xs ++ l ∷ [])) (ap not e' ∙ p.0) (once_more xs l p.1 q.1)
  where
    both : (a b : Bool) → a ≡ true → b ≡ true → (a && b) ≡ true
    both a b e f = ap (λ z. z && b) e ∙ f

-- with a label more, that isn't there
pub more_holds : (labels : List ℕ) (table : List Bool) (l : ℕ) → HoldsLabels labels table → is_in l labels ≡ false → l < 512 → HoldsLabels (labels ++ l ∷ []) (set table l true)
more_holds labels table l h n b = record {
  once = once_more labels l h.once n;
  size = length-set table l true ∙ h.size;
  entries = λ k. elim (same_or_not k l) [
    | inl same ↦
        (let room : l < length table = omega (arith, h.size) in
        let yes : is_in k (labels ++ l ∷ []) ≡ true = is_in-more k l labels ∙ ap (λ z. is_in k labels || z) (eq-eqb l k (sym same)) ∙ or_true (is_in k labels) in
        ap (λ j. get_or (set table l true) j false) same ∙ get_or-set_same table l true false room ∙ sym yes)
    | inr other ↦
        (let none : (l == k) ≡ false = grind (arith, nat_tests, other) in
        let same : is_in k (labels ++ l ∷ []) ≡ is_in k labels = is_in-more k l labels ∙ ap (λ z. is_in k labels || z) none ∙ or_false (is_in k labels) in
        get_or-set_other table l k true false other ∙ h.entries k ∙ sym same)
  ];
}

-- a label past the table isn't there
pub none_past : (labels : List ℕ) (table : List Bool) (l : ℕ) → HoldsLabels labels table → 512 ≤ l → is_in l labels ≡ false
none_past labels table l h p = sym (h.entries l) ∙ get_or_past table l false (omega (arith, h.size))

is_in-get_or : (xs : List ℕ) (k d : ℕ) → k < length xs → is_in (get_or xs k d) xs ≡ true
is_in-get_or [] k d l = absurd (omega arith)
is_in-get_or (x ∷ xs) zero d l = ap (λ b. b || is_in x xs) (eq-eqb x x refl)
is_in-get_or (x ∷ xs) (suc k) d l = ap (λ b. (x == get_or xs k d) || b) (is_in-get_or xs k d (omega arith)) ∙ or_true (x == get_or xs k d)

-- each label is within the table
pub all_within : (labels : List ℕ) (table : List Bool) → HoldsLabels labels table → All (λ l. l < 512) labels
all_within labels table h = λ k d l. elim (less_or (get_or labels k d) 512) [
  | inl y ↦ y
  | inr n ↦ absurd (clash (is_in (get_or labels k d) labels) (is_in-get_or labels k d l) (none_past labels table (get_or labels k d) h n))
]
