-- The table of keys, in terms of its list.
use Rattle.std.proofs.Common.{◌≡◌, ◌≢◌, ℕ, zero, suc, ◌<◌, Bool, true, false, cond, ◌&&◌, ◌||◌, ◌⊎◌, List, [], ◌∷◌, ◌++◌, map, length, take, get_or, find, subst, Result, Ok, Err, OnOk, OnErr, if◌then◌else◌, bytes_eq, option_map, Option, Some, None, All, AllPairs, refl, sym, ap, ◌∙◌, inl, inr, arith}
use Rattle.std.specs.List.{AllByRecursion}
use Rattle.std.specs.Map.{lookup}
use Rattle.std.specs.Option.{option_map_or}
use Rattle.std.proofs.lemmas.Bool.{cases_Bool, and_parts}
use Rattle.std.proofs.lemmas.List.{map-append}
use Rattle.std.proofs.lemmas.List.Elements.{All-nil, All-cons, All-get_or, recursion_from_All}
use Rattle.std.proofs.lemmas.List.Quantifiers.{all_pairs_push}
use Rattle.indexmap.specs.IndexMap.{insert_entry}
use Rattle.sg_model.specs.Names.{Name}
use Rattle.sg_model.proofs.Small.{same_bytes}
use Rattle.sg_model.proofs.Finding.{find_passes, find_all}
use Rattle.sg_protocol.specs.Crafted.{pair_key}
use Rattle.sg_protocol.specs.Schedule.{PairKey}
use Rattle.sg_base.proofs.SameName.{same-bytes_eq, same-bytes_eq_back}
use Rattle.sg_craft.specs.Model.{is_in_order, key_of_entry}
use Rattle.sg_craft.specs.Invariant.{AreApart}
use Rattle.sg_craft.specs.declared.keys.Pair.{Pair}
use Rattle.sg_craft.specs.contracts.keys.PairPartialEq.TheImpl.{eq-value}

-- an entry of the table
abbrev pub Entry : Type 0
Entry = Pair × List ℕ

-- the `==` of pairs
abbrev pub same_pair : Pair → Pair → Bool
same_pair a b = eq-value.it a b

abbrev key_of : PairKey → List ℕ
key_of k = k.key

-- ---- finding in one order

found_by : (b : Bool) (e : Entry) (o : Option (List ℕ)) (u : Option PairKey) → o ≡ option_map key_of u → cond b (Some e.1) o ≡ option_map key_of (if b then Some (key_of_entry e) else u)
found_by true e o u h = refl
found_by false e o u h = h

-- what the table has for two principals
pub lookup-in_order : (one two : Name) (es : List Entry) → lookup (same_pair (record { one = one; two = two })) es ≡ option_map key_of (find (is_in_order one two) (map key_of_entry es))
lookup-in_order one two [] = refl
lookup-in_order one two (e ∷ es) =
    ap (λ b. cond b (Some e.1) (lookup (same_pair (record { one = one; two = two })) es)) (λ i. same-bytes_eq_back one (e.0).one i && same-bytes_eq_back two (e.0).two i)
    ∙ found_by (is_in_order one two (key_of_entry e)) e _ _ (lookup-in_order one two es)

-- ---- a key more

not_both : (a b c d : Name) → (c ≢ a) ⊎ (d ≢ b) → (bytes_eq a c && bytes_eq b d) ≡ false
not_both a b c d h = elim (cases_Bool (bytes_eq a c && bytes_eq b d)) [
  | inl e ↦ (let p = and_parts (bytes_eq a c) (bytes_eq b d) e in absurd (elim h [ inl n ↦ n (sym (same_bytes a c p.0)) | inr n ↦ n (sym (same_bytes b d p.1)) ]))
  | inr e ↦ e
]

insert_by : (b : Bool) (k : Pair) (v : List ℕ) (e : Entry) (es : List Entry) → b ≡ false → insert_entry same_pair es k v ≡ es ++ (k, v) ∷ [] → (if b then (e.0, v) ∷ es else e ∷ insert_entry same_pair es k v) ≡ e ∷ es ++ (k, v) ∷ []
insert_by true k v e es n h = absurd (cc)
insert_by false k v e es n h = ap (λ l. e ∷ l) h

insert_apart : (k : Pair) (v : List ℕ) (es : List Entry) → AllByRecursion (λ x. AreApart x (record { one = k.one; two = k.two; key = v })) (map key_of_entry es) → insert_entry same_pair es k v ≡ es ++ (k, v) ∷ []
insert_apart k v [] h = refl
insert_apart k v (e ∷ es) h =
    insert_by (same_pair k e.0) k v e es ((λ i. same-bytes_eq k.one (e.0).one i && same-bytes_eq k.two (e.0).two i) ∙ not_both k.one k.two (e.0).one (e.0).two h.0.0) (insert_apart k v es h.1)

-- a key of a pair that has none goes last
pub insert_last : (k : PairKey) (es : List Entry) → All (λ x. AreApart x k) (map key_of_entry es) → map key_of_entry (insert_entry same_pair es (record { one = k.one; two = k.two }) k.key) ≡ map key_of_entry es ++ k ∷ []
insert_last k es h =
    ap (map key_of_entry) (insert_apart (record { one = k.one; two = k.two }) k.key es (recursion_from_All (λ x. AreApart x k) (map key_of_entry es) h))
    ∙ map-append key_of_entry es ((record { one = k.one; two = k.two }, k.key) ∷ [])

-- and the keys stay apart
pub apart_more : (ks : List PairKey) (k : PairKey) → AllPairs AreApart ks → All (λ x. AreApart x k) ks → AllPairs AreApart (ks ++ k ∷ [])
apart_more ks k h a = all_pairs_push AreApart ks k h (λ n d l. a n d l)

-- what is kept stays apart, whether the key was added or not
pub kept_apart : {T E : Type 0} (r : Result T E) (old new : List Entry) (k : PairKey) → OnOk r (map key_of_entry new ≡ map key_of_entry old ++ k ∷ []) → OnErr r (new ≡ old) → AllPairs AreApart (map key_of_entry old) → All (λ x. AreApart x k) (map key_of_entry old) → AllPairs AreApart (map key_of_entry new)
kept_apart (Ok x) old new k ok err h a = subst (AllPairs AreApart) (sym ok) (apart_more (map key_of_entry old) k h a)
kept_apart (Err e) old new k ok err h a = subst (λ es. AllPairs AreApart (map key_of_entry es)) (sym err) h

-- ---- finding in either order

abbrev is_either : Name → Name → PairKey → Bool
is_either one two k = bytes_eq k.one one && bytes_eq k.two two || bytes_eq k.one two && bytes_eq k.two one

pairs_head : (k : PairKey) (ks : List PairKey) → AllPairs AreApart (k ∷ ks) → AllByRecursion (AreApart k) ks
pairs_head k ks h = recursion_from_All (AreApart k) ks (λ j d l. h 0 (suc j) d (omega arith) (omega arith))

pairs_tail : (k : PairKey) (ks : List PairKey) → AllPairs AreApart (k ∷ ks) → AllPairs AreApart ks
pairs_tail k ks h i j d l m = h (suc i) (suc j) d (omega arith) (omega arith)

-- a key is apart from those before it
pub apart_before : (ks : List PairKey) (i : ℕ) (d : PairKey) → AllPairs AreApart ks → i < length ks → All (λ x. AreApart x (get_or ks i d)) (take i ks)
apart_before [] i d h l = absurd (omega arith)
apart_before (k ∷ ks) zero d h l = All-nil (λ x. AreApart x k)
apart_before (k ∷ ks) (suc i) d h l = All-cons (λ x. AreApart x (get_or ks i d)) k (take i ks) (All-get_or (AreApart k) ks i d (omega arith) (λ j e m. h 0 (suc j) e (omega arith) (omega arith))) (apart_before ks i d (pairs_tail k ks h) (omega arith))

both : (one two : Name) (k : PairKey) → is_in_order one two k ≡ true → (k.one ≡ one) × (k.two ≡ two)
both one two k h = let p = and_parts (bytes_eq k.one one) (bytes_eq k.two two) h in (same_bytes k.one one p.0, same_bytes k.two two p.1)

crossed : (one two : Name) (k j : PairKey) → AreApart k j → is_in_order two one k ≡ true → is_in_order one two j ≡ true → ⊥
crossed one two k j a p q =
    let x = both two one k p in
    let y = both one two j q in
    elim a.1 [ inl n ↦ n (x.0 ∙ sym y.1) | inr n ↦ n (x.1 ∙ sym y.0) ]

-- the key in one order is the one in either
either_first : (one two : Name) (ks : List PairKey) (k : PairKey) → AllPairs AreApart ks → find (is_in_order one two) ks ≡ Some k → find (is_either one two) ks ≡ Some k
either_first one two [] k h e = absurd (let z : None ≡ Some k = e in cc)
either_first one two (j ∷ js) k h e = on (is_in_order one two j) refl (is_in_order two one j) refl (λ f. either_first one two js k (pairs_tail j js h) f)
  where
    on : (p : Bool) → is_in_order one two j ≡ p → (q : Bool) → is_in_order two one j ≡ q → (find (is_in_order one two) js ≡ Some k → find (is_either one two) js ≡ Some k) → find (is_either one two) (j ∷ js) ≡ Some k
    on true p q r rest = ap (λ b. if b || is_in_order two one j then Some j else find (is_either one two) js) p ∙ sym (ap (λ b. if b then Some j else find (is_in_order one two) js) p) ∙ e
    on false p true r rest =
        let f : find (is_in_order one two) js ≡ Some k = sym (ap (λ b. if b then Some j else find (is_in_order one two) js) p) ∙ e in
        absurd (crossed one two j k (find_all (is_in_order one two) (AreApart j) js k (pairs_head j js h) f) r (find_passes (is_in_order one two) js k f))
    on false p false r rest =
        let f : find (is_in_order one two) js ≡ Some k = sym (ap (λ b. if b then Some j else find (is_in_order one two) js) p) ∙ e in
        (λ i. if p i || r i then Some j else find (is_either one two) js) ∙ rest f

-- without one in this order it is the one in the other
either_second : (one two : Name) (ks : List PairKey) → find (is_in_order one two) ks ≡ None → find (is_either one two) ks ≡ find (is_in_order two one) ks
either_second one two [] e = refl
either_second one two (j ∷ js) e = on (is_in_order one two j) refl (λ f. either_second one two js f)
  where
    on : (p : Bool) → is_in_order one two j ≡ p → (find (is_in_order one two) js ≡ None → find (is_either one two) js ≡ find (is_in_order two one) js) → find (is_either one two) (j ∷ js) ≡ find (is_in_order two one) (j ∷ js)
    on true p rest = absurd (let z : Some j ≡ None = sym (ap (λ b. if b then Some j else find (is_in_order one two) js) p) ∙ e in cc)
    on false p rest =
        let f : find (is_in_order one two) js ≡ None = sym (ap (λ b. if b then Some j else find (is_in_order one two) js) p) ∙ e in
        (λ i. if p i || is_in_order two one j then Some j else rest f i)

key_there : (o : Option PairKey) (v : List ℕ) → Some v ≡ option_map key_of o → (k : PairKey) × (o ≡ Some k) × (v ≡ k.key)
key_there None v h = absurd (let z : Some v ≡ None = h in cc)
key_there (Some k) v h = (k, refl, (let z : Some v ≡ Some k.key = h in cc))

none_there : (o : Option PairKey) → None ≡ option_map key_of o → o ≡ None
none_there None h = refl
none_there (Some k) h = absurd (let z : None ≡ Some k.key = h in cc)

-- the key in this order
pub key_first : (one two : Name) (ks : List PairKey) (v : List ℕ) → AllPairs AreApart ks → Some v ≡ option_map key_of (find (is_in_order one two) ks) → v ≡ pair_key ks one two
key_first one two ks v h e =
    let r = key_there (find (is_in_order one two) ks) v e in
    r.2 ∙ sym (ap (λ o. option_map_or key_of o []) (either_first one two ks r.0 h r.1))

-- the key in the other order
pub key_second : (one two : Name) (ks : List PairKey) (v : List ℕ) → None ≡ option_map key_of (find (is_in_order one two) ks) → Some v ≡ option_map key_of (find (is_in_order two one) ks) → v ≡ pair_key ks one two
key_second one two ks v n e =
    let r = key_there (find (is_in_order two one) ks) v e in
    r.2 ∙ sym (ap (λ o. option_map_or key_of o []) (either_second one two ks (none_there _ n) ∙ r.1))

-- no key
pub key_none : (one two : Name) (ks : List PairKey) → None ≡ option_map key_of (find (is_in_order one two) ks) → None ≡ option_map key_of (find (is_in_order two one) ks) → [] ≡ pair_key ks one two
key_none one two ks n m = sym (ap (λ o. option_map_or key_of o []) (either_second one two ks (none_there _ n) ∙ none_there _ m))
