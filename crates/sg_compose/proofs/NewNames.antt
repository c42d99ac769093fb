-- A name that a use adds isn't too long and none of those before it, and there is room for its part.
use Rattle.std.proofs.Common.{◌≡◌, ℕ, zero, suc, ◌+◌, ◌<◌, ◌≤◌, ◌==◌, nat_le, Bool, true, false, not, ◌&&◌, inl, inr, List, [], ◌∷◌, ◌++◌, map, filter, length, take, drop, get_or, refl, sym, ap, ◌∙◌, subst, arith, add-one, append_assoc, length-append}
use Rattle.std.specs.List.{list_all, list_any}
use Rattle.std.proofs.lemmas.Bool.{cases_Bool, and_parts, false_from_ne_true}
use Rattle.std.proofs.lemmas.Bool.Decides.{nat_tests}
use Rattle.std.proofs.lemmas.List.{map-append}
use Rattle.std.proofs.lemmas.List.Folds.{list_all-append}
use Rattle.sg_model.specs.Lists.{all_differ, below, has_text}
use Rattle.sg_model.specs.Names.{is_letter, is_name_byte}
use Rattle.sg_model.proofs.Differ.{absent_before}
use Rattle.sg_model.proofs.Numbers.{filter_below_in, filter_below_out}
use Rattle.sg_model.proofs.Small.{contradicts}
use Rattle.sg_protocol.specs.Graph.{AreNames, Name, is_name, reserved}
use Rattle.sg_compose.specs.Expansion.{is_long}
use Rattle.sg_compose.proofs.Ends.{any-inside-hit}

name-short : (n : Name) → is_name n ≡ true → is_long n ≡ false
name-short [] h = absurd (cc)
name-short (c ∷ cs) h = (let few = (and_parts (is_letter c && list_all is_name_byte cs) (nat_le (length cs) 31) h).1 in grind (arith, nat_tests, few))

next-name : (xs : List Name) (y : Name) (zs : List Name) → AreNames (xs ++ y ∷ zs) → (is_long y ≡ false) × (has_text y xs ≡ false)
next-name xs y zs are =
    let p : Name → Bool = λ n. is_name n && not (has_text n reserved) in
    let a = and_parts (list_all p (xs ++ y ∷ zs)) (all_differ (xs ++ y ∷ zs)) are in
    let b = and_parts (list_all p xs) (list_all p (y ∷ zs)) (sym (list_all-append p xs (y ∷ zs)) ∙ a.0) in
    let d = and_parts (p y) (list_all p zs) b.1 in
    (name-short y (and_parts (is_name y) (not (has_text y reserved)) d.0).0, absent_before xs y zs a.1)

-- the part that is made of x may be added after olds and those that are made before it
pub record MayFollow {A B : Type 0} (name : B → Name) (new : A → B) (olds : List B) (most : ℕ) (before : List A) (x : A) : Type 0 where
  pub short : is_long (name (new x)) ≡ false
  pub free : has_text (name (new x)) (map name (olds ++ map new before)) ≡ false
  pub room : length (olds ++ map new before) < most

module _ {A B : Type 0} (name : B → Name) (new : A → B) (olds : List B) (most : ℕ) (xs : List A) (are : AreNames (map name (olds ++ map new xs))) (few : length (olds ++ map new xs) ≤ most) where
  may-follow : (before : List A) (x : A) (after : List A) → xs ≡ before ++ x ∷ after → MayFollow name new olds most before x
  may-follow before x after split =
      let same : olds ++ map new xs ≡ (olds ++ map new before) ++ new x ∷ map new after = ap (λ l. olds ++ map new l) split ∙ ap (λ l. olds ++ l) (map-append new before (x ∷ after)) ∙ sym (append_assoc olds (map new before) (new x ∷ map new after)) in
      let names : map name (olds ++ map new xs) ≡ map name (olds ++ map new before) ++ name (new x) ∷ map name (map new after) = ap (map name) same ∙ map-append name (olds ++ map new before) (new x ∷ map new after) in
      let count : length (olds ++ map new xs) ≡ length (olds ++ map new before) + suc (length (map new after)) = ap length same ∙ length-append (olds ++ map new before) (new x ∷ map new after) in
      let next = next-name (map name (olds ++ map new before)) (name (new x)) (map name (map new after)) (subst AreNames names are) in
      record { short = next.0; free = next.1; room = omega (arith, count, few) }

  -- at an index
  pub may-follow-at : (k : ℕ) (d : A) → k < length xs → MayFollow name new olds most (take k xs) (get_or xs k d)
  may-follow-at k d l = may-follow (take k xs) (get_or xs k d) (drop (suc k) xs) (cut xs k d l)
    where
      cut : (xs : List A) (k : ℕ) (d : A) → k < length xs → xs ≡ take k xs ++ get_or xs k d ∷ drop (suc k) xs
      cut [] k d l = absurd (omega (arith, l))
      cut (x ∷ xs) zero d l = refl
      cut (x ∷ xs) (suc k) d l = ap (λ l. x ∷ l) (cut xs k d (omega (arith, l)))

-- a number that passes stands after those below it that do
passing : (p : ℕ → Bool) (k n : ℕ) → p k ≡ true → k < n → (after : List ℕ) × (filter p (below n) ≡ filter p (below k) ++ k ∷ after)
passing p k zero h l = absurd (omega (arith, l))
passing p k (suc n) h l = elim (cases_Bool (k == n)) [
  | inl y ↦
      (let same : k ≡ n = grind (arith, nat_tests, y) in
      ([], ap (λ i. filter p (below i)) (sym (add-one n)) ∙ filter_below_in p n (subst (λ i. p i ≡ true) same h) ∙ ap (λ i. filter p (below i) ++ i ∷ []) (sym same)))
  | inr d ↦
      (let apart : k < n = grind (arith, nat_tests, d, l) in
      let r = passing p k n h apart in
      elim (cases_Bool (p n)) [
        | inl y ↦ (r.0 ++ n ∷ [], ap (λ i. filter p (below i)) (sym (add-one n)) ∙ filter_below_in p n y ∙ ap (λ l. l ++ n ∷ []) r.1 ∙ append_assoc (filter p (below k)) (k ∷ r.0) (n ∷ []))
        | inr o ↦ (r.0, ap (λ i. filter p (below i)) (sym (add-one n)) ∙ filter_below_out p n o ∙ r.1)
      ])
]

pub may-follow-passing : {B : Type 0} (name : B → Name) (new : ℕ → B) (olds : List B) (most : ℕ) (p : ℕ → Bool) (k n : ℕ) → AreNames (map name (olds ++ map new (filter p (below n)))) → length (olds ++ map new (filter p (below n))) ≤ most
    → p k ≡ true → k < n → MayFollow name new olds most (filter p (below k)) k
may-follow-passing name new olds most p k n are few h l = (let r = passing p k n h l in may-follow name new olds most (filter p (below n)) are few (filter p (below k)) k r.0 r.1)

-- none of those that pass one test passes the other
pub none-inside : (p q : ℕ → Bool) (k n : ℕ) → k < n → list_any p (filter q (below n)) ≡ false → (q k && p k) ≡ false
none-inside p q k n l none = false_from_ne_true (q k && p k) (λ both. contradicts (any-inside-hit p q k n l both) none)
