-- Names as a use gives them: names that differ, also from those that are there.
use Rattle.std.proofs.Common.{◌≡◌, ℕ, suc, ◌+◌, ◌<◌, nat_le, Bool, true, false, not, ◌&&◌, inl, inr, List, [], ◌∷◌, ◌++◌, map, filter, length, get_or, bytes_eq, refl, sym, ap, ◌∙◌, subst, arith}
use Rattle.std.specs.List.{list_all, list_any}
use Rattle.std.proofs.lemmas.Bool.{cases_Bool, and_parts, and_from, or_parts, or_from, not-true, not_from_false, false_from_ne_true}
use Rattle.std.proofs.lemmas.Bool.Decides.{nat_tests}
use Rattle.std.proofs.lemmas.List.Folds.{list_all-append}
use Rattle.std.proofs.lemmas.Slice.Eq.{bytes_eq-Decides}
use Rattle.sg_compose.specs.Expansion.{inner_name, is_long}
use Rattle.sg_compose.proofs.Renaming.{inner-free}
use Rattle.sg_graph.proofs.FirstIndex.{list_any-map}
use Rattle.sg_model.specs.Lists.{all_differ, below, has_text, range_from}
use Rattle.sg_model.specs.Names.{is_letter, is_name_byte}
use Rattle.sg_model.proofs.Differ.{no_text_both}
use Rattle.sg_model.proofs.Small.{bytes_eq-flip, contradicts, tails}
use Rattle.sg_parse.specs.Parts.{Use}
use Rattle.sg_parse.proofs.Scanning.{letter_in_name}
use Rattle.sg_protocol.specs.Graph.{AreNames, Graph, Name, Node, is_name, node_name, reserved}

-- ---- one name

name-bytes : (n : Name) → is_name n ≡ true → list_all is_name_byte n ≡ true
name-bytes [] h = refl
name-bytes (c ∷ cs) h =
    let a = and_parts (is_letter c && list_all is_name_byte cs) (nat_le (length cs) 31) h in
    let b = and_parts (is_letter c) (list_all is_name_byte cs) a.0 in
    and_from (is_name_byte c) (list_all is_name_byte cs) (letter_in_name c b.0) b.1

-- two names with _ between them are a name, if that isn't too long
joined-name : (a n : Name) → is_name a ≡ true → is_name n ≡ true → is_long (a ++ 95 ∷ n) ≡ false → is_name (a ++ 95 ∷ n) ≡ true
joined-name [] n h named short = absurd (cc)
joined-name (c ∷ cs) n h named short =
    let a = and_parts (is_letter c && list_all is_name_byte cs) (nat_le (length cs) 31) h in
    let b = and_parts (is_letter c) (list_all is_name_byte cs) a.0 in
    let all : list_all is_name_byte (cs ++ 95 ∷ n) ≡ true = list_all-append is_name_byte cs (95 ∷ n) ∙ and_from (list_all is_name_byte cs) (list_all is_name_byte (95 ∷ n)) b.1 (name-bytes n named) in
    let few : nat_le (length (cs ++ 95 ∷ n)) 31 ≡ true = grind (arith, nat_tests, short) in
    and_from (is_letter c && list_all is_name_byte (cs ++ 95 ∷ n)) (nat_le (length (cs ++ 95 ∷ n)) 31) (and_from (is_letter c) (list_all is_name_byte (cs ++ 95 ∷ n)) b.0 all) few

-- other names stay other names
same-behind : (a x y : Name) → a ++ 95 ∷ x ≡ a ++ 95 ∷ y → x ≡ y
same-behind [] x y e = tails 95 95 x y e
same-behind (c ∷ cs) x y e = same-behind cs x y (tails c c (cs ++ 95 ∷ x) (cs ++ 95 ∷ y) e)

other-behind : (a x y : Name) → bytes_eq x y ≡ false → bytes_eq (a ++ 95 ∷ x) (a ++ 95 ∷ y) ≡ false
other-behind a x y other =
    false_from_ne_true (bytes_eq (a ++ 95 ∷ x) (a ++ 95 ∷ y))
    (λ same. contradicts ((bytes_eq-Decides x y).1 (same-behind a x y ((bytes_eq-Decides (a ++ 95 ∷ x) (a ++ 95 ∷ y)).0 same))) other)

-- ---- names that differ

apart : (x : Name) (xs ys : List Name) → list_any (λ y. has_text y (x ∷ xs)) ys ≡ false → (has_text x ys ≡ false) × (list_any (λ y. has_text y xs) ys ≡ false)
apart x xs [] h = (refl, refl)
apart x xs (y ∷ ys) h =
    let p = or_parts (has_text y (x ∷ xs)) (list_any (λ z. has_text z (x ∷ xs)) ys) h in
    let q = or_parts (bytes_eq y x) (has_text y xs) p.0 in
    let r = apart x xs ys p.1 in
    (or_from (bytes_eq x y) (has_text x ys) (bytes_eq-flip y x q.0) r.0, or_from (has_text y xs) (list_any (λ z. has_text z xs) ys) q.1 r.1)

-- names that differ, and others that differ and are none of these
differ-both : (xs ys : List Name) → all_differ xs ≡ true → all_differ ys ≡ true → list_any (λ y. has_text y xs) ys ≡ false → all_differ (xs ++ ys) ≡ true
differ-both [] ys a b none = b
differ-both (x ∷ xs) ys a b none =
    let p = and_parts (not (has_text x xs)) (all_differ xs) a in
    let s = apart x xs ys none in
    and_from (not (has_text x (xs ++ ys))) (all_differ (xs ++ ys))
    (not_from_false (has_text x (xs ++ ys)) (no_text_both x xs ys (not-true (has_text x xs) p.0) s.0)) (differ-both xs ys p.1 b s.1)

-- ---- the names of what a use adds

module _ (u : Use) (named : is_name u.name ≡ true) where
  none-renamed : (t : Name) (ns : List Name) → has_text t ns ≡ false → has_text (inner_name u t) (map (inner_name u) ns) ≡ false
  none-renamed t [] h = refl
  none-renamed t (n ∷ ns) h =
      let p = or_parts (bytes_eq t n) (has_text t ns) h in
      or_from (bytes_eq (inner_name u t) (inner_name u n)) (has_text (inner_name u t) (map (inner_name u) ns)) (other-behind u.name t n p.0) (none-renamed t ns p.1)

  differ-renamed : (ns : List Name) → all_differ ns ≡ true → all_differ (map (inner_name u) ns) ≡ true
  differ-renamed [] h = refl
  differ-renamed (n ∷ ns) h =
      let p = and_parts (not (has_text n ns)) (all_differ ns) h in
      and_from (not (has_text (inner_name u n) (map (inner_name u) ns))) (all_differ (map (inner_name u) ns))
      (not_from_false (has_text (inner_name u n) (map (inner_name u) ns)) (none-renamed n ns (not-true (has_text n ns) p.0))) (differ-renamed ns p.1)

  all-renamed : (ns : List Name) → list_all (λ n. is_name n && not (has_text n reserved)) ns ≡ true → list_any (λ n. is_long (inner_name u n)) ns ≡ false
      → list_all (λ n. is_name n && not (has_text n reserved)) (map (inner_name u) ns) ≡ true
  all-renamed [] h short = refl
  all-renamed (n ∷ ns) h short =
      let p : Name → Bool = λ n. is_name n && not (has_text n reserved) in
      let a = and_parts (p n) (list_all p ns) h in
      let b = and_parts (is_name n) (not (has_text n reserved)) a.0 in
      let s = or_parts (is_long (inner_name u n)) (list_any (λ n. is_long (inner_name u n)) ns) short in
      and_from (p (inner_name u n)) (list_all p (map (inner_name u) ns))
      (and_from (is_name (inner_name u n)) (not (has_text (inner_name u n) reserved)) (joined-name u.name n named b.0 s.0) (not_from_false (has_text (inner_name u n) reserved) (inner-free u.name n)))
      (all-renamed ns a.1 s.1)

  -- names, and others as the use gives them, of which none is too long or there
  pub names-added : (olds ns : List Name) → AreNames olds → AreNames ns → list_any (λ n. is_long (inner_name u n)) ns ≡ false → list_any (λ n. has_text (inner_name u n) olds) ns ≡ false
      → AreNames (olds ++ map (inner_name u) ns)
  names-added olds ns are those short new =
      let p : Name → Bool = λ n. is_name n && not (has_text n reserved) in
      let news : List Name = map (inner_name u) ns in
      let a = and_parts (list_all p olds) (all_differ olds) are in
      let b = and_parts (list_all p ns) (all_differ ns) those in
      let all : list_all p (olds ++ news) ≡ true = list_all-append p olds news ∙ and_from (list_all p olds) (list_all p news) a.0 (all-renamed ns b.0 short) in
      and_from (list_all p (olds ++ news)) (all_differ (olds ++ news)) all
      (differ-both olds news a.1 (differ-renamed ns b.1) (list_any-map (λ n. has_text n olds) (inner_name u) ns ∙ new))

-- what is made of each element has the name that is made of its name
pub named-so : {A B : Type 0} (f : A → B) (p : A → Name) (q : B → Name) (r : Name → Name) → ((x : A) → q (f x) ≡ r (p x)) → (xs : List A) → map q (map f xs) ≡ map r (map p xs)
named-so f p q r same [] = refl
named-so f p q r same (x ∷ xs) = ap (λ n. n ∷ map q (map f xs)) (same x) ∙ ap (λ ns. r (p x) ∷ ns) (named-so f p q r same xs)

-- ---- some of the nodes

module _ (f : ℕ → Name) (q : ℕ → Bool) where
  some-all : (p : Name → Bool) (xs : List ℕ) → list_all p (map f xs) ≡ true → list_all p (map f (filter q xs)) ≡ true
  some-all p [] h = refl
  some-all p (x ∷ xs) h =
      let a = and_parts (p (f x)) (list_all p (map f xs)) h in
      elim (cases_Bool (q x)) [
        | inl y ↦ rw y (and_from (p (f x)) (list_all p (map f (filter q xs))) a.0 (some-all p xs a.1))
        | inr n ↦ rw n (some-all p xs a.1)
      ]

  some-none : (t : Name) (xs : List ℕ) → has_text t (map f xs) ≡ false → has_text t (map f (filter q xs)) ≡ false
  some-none t [] h = refl
  some-none t (x ∷ xs) h =
      let a = or_parts (bytes_eq t (f x)) (has_text t (map f xs)) h in
      elim (cases_Bool (q x)) [
        | inl y ↦ rw y (or_from (bytes_eq t (f x)) (has_text t (map f (filter q xs))) a.0 (some-none t xs a.1))
        | inr n ↦ rw n (some-none t xs a.1)
      ]

  some-differ : (xs : List ℕ) → all_differ (map f xs) ≡ true → all_differ (map f (filter q xs)) ≡ true
  some-differ [] h = refl
  some-differ (x ∷ xs) h =
      let a = and_parts (not (has_text (f x) (map f xs))) (all_differ (map f xs)) h in
      elim (cases_Bool (q x)) [
        | inl y ↦
            rw y (and_from (not (has_text (f x) (map f (filter q xs)))) (all_differ (map f (filter q xs)))
            (not_from_false (has_text (f x) (map f (filter q xs))) (some-none (f x) xs (not-true (has_text (f x) (map f xs)) a.0))) (some-differ xs a.1))
        | inr n ↦ rw n (some-differ xs a.1)
      ]

  -- some of the names are names
  some-names : (xs : List ℕ) → AreNames (map f xs) → AreNames (map f (filter q xs))
  some-names xs are =
      let p : Name → Bool = λ n. is_name n && not (has_text n reserved) in
      let a = and_parts (list_all p (map f xs)) (all_differ (map f xs)) are in
      and_from (list_all p (map f (filter q xs))) (all_differ (map f (filter q xs))) (some-all p xs a.0) (some-differ xs a.1)

-- the names of elements, one index after the other
by-index : {A : Type 0} (f : A → Name) (d : A) (h : ℕ → Name) (a : ℕ) (xs : List A) → ((k : ℕ) → k < length xs → h (a + k) ≡ f (get_or xs k d)) → map h (range_from a (length xs)) ≡ map f xs
by-index f d h a [] same = refl
by-index f d h a (x ∷ xs) same =
    let none : a + 0 ≡ a = omega arith in
    let here : h a ≡ f x = subst (λ n. h n ≡ f x) none (same 0 (omega arith)) in
    let later : (k : ℕ) → k < length xs → h (suc a + k) ≡ f (get_or xs k d) = λ k l. (let next : a + suc k ≡ suc a + k = omega arith in subst (λ n. h n ≡ f (get_or xs k d)) next (same (suc k) (omega (arith, l)))) in
    ap (λ n. n ∷ map h (range_from (suc a) (length xs))) here ∙ ap (λ ns. f x ∷ ns) (by-index f d h (suc a) xs later)

-- some of the nodes have names
pub some-nodes : (g : Graph) (q : ℕ → Bool) → AreNames (map (λ n. n.name) g.nodes) → AreNames (map (node_name g) (filter q (below (length g.nodes))))
some-nodes g q are =
    let all : map (node_name g) (below (length g.nodes)) ≡ map (λ (n : Node). n.name) g.nodes = by-index (λ (n : Node). n.name) (record { name = []; role = 0 }) (node_name g) 0 g.nodes
    (λ k l. (let same : 0 + k ≡ k = omega arith in ap (node_name g) same)) in
    some-names (node_name g) q (below (length g.nodes)) (subst AreNames (sym all) are)
