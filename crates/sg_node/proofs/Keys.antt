-- The slot of a pair of session and role in the table, by its key.
use Rattle.std.specs.Prelude.{◌≡◌, ℕ, suc, ◌<◌, ◌==◌, ◌&&◌, ◌||◌, nat_lt, ◌+◌, Bool, true, false, if◌then◌else◌, List, [], ◌∷◌, ◌++◌, map, bytes_eq, refl, Option, Some, None, option_map, option_and_then, position, Contains}
use Rattle.std.specs.List.{AllByRecursion, IsDistinct, list_any}
use Rattle.std.proofs.Common.{sym, ◌∙◌, ap, subst, inl, inr, arith}
use Rattle.std.proofs.lemmas.Bool.{cases_Bool}
use Rattle.std.proofs.lemmas.Bool.Decides.{nat_tests}
use Rattle.indexmap.specs.IndexMap.{insert_entry}
use Rattle.sg_model.proofs.Small.{clash, and_false, and_true}
use Rattle.sg_cache.proofs.SameJoin.{Join, same, same-Decides, any_same, same-parts}
use Rattle.sg_node.specs.declared.sessions.Live.{Live}
use Rattle.sg_node.specs.Slots.{Slot, is_of, is_of_role, earlier_of, first_index}
use Rattle.sg_node.proofs.Indices.{live_at, earlier_position, same_position, index_is_position}

-- the slot is of the key, and what is there passes
module _ (q : Option Live → Bool) (sid : List ℕ) (r : ℕ) where
  abbrev pub by_key : Slot → Bool
  by_key s = q s.1 && bytes_eq (s.0).0 sid && ((s.0).1 == r)

  of_key : (s : Slot) → by_key s ≡ (q s.1 && same (sid, r) s.0)
  of_key s = grouped (q s.1) (bytes_eq (s.0).0 sid) ((s.0).1 == r) ∙ ap (λ b. q s.1 && b) (same-parts sid r s.0)
    where
      grouped : (a b c : Bool) → ((a && b) && c) ≡ (a && (b && c))
      grouped true b c = refl
      grouped false b c = refl

  -- if a key stands first, none behind it has it
  none_behind : (j : Join) → same (sid, r) j ≡ true → (ss : List Slot) → AllByRecursion (λ k. same j k ≡ false) (map (λ s. s.0) ss) → first_index by_key ss ≡ None
  none_behind j e [] h = refl
  none_behind j e (s ∷ ss) h =
      let f : same (sid, r) s.0 ≡ false = subst (λ k. same k s.0 ≡ false) (sym ((same-Decides (sid, r) j).0 e)) h.0 in
      let t : by_key s ≡ false = of_key s ∙ ap (λ b. q s.1 && b) f ∙ and_false (q s.1) in
      rw t (ap (option_map suc) (none_behind j e ss h.1))

  -- the slot where the key stands, if what is there passes
  pub index_of_key : (ss : List Slot) → IsDistinct same (map (λ s. s.0) ss) →
      first_index by_key ss ≡ option_and_then (λ i. if q (live_at ss i) then Some i else None) (first_index (same (sid, r)) (map (λ s. s.0) ss))
  unfolding IsDistinct
  index_of_key [] d = refl
  index_of_key (s ∷ ss) d = elim (cases_Bool (same (sid, r) s.0)) [
    | inl e ↦
        let t : by_key s ≡ q s.1 = of_key s ∙ ap (λ b. q s.1 && b) e ∙ and_true (q s.1) in
        rw (t, e) (elim (cases_Bool (q s.1)) [ inl f ↦ rw f refl | inr f ↦ rw f (ap (option_map suc) (none_behind s.0 e ss d.0)) ])
    | inr e ↦
        let t : by_key s ≡ false = of_key s ∙ ap (λ b. q s.1 && b) e ∙ and_false (q s.1) in
        rw (t, e) (ap (option_map suc) (index_of_key ss d.1) ∙ shifted (first_index (same (sid, r)) (map (λ s. s.0) ss)))
  ]
    where
      shifted : (p : Option ℕ) → option_map suc (option_and_then (λ i. if q (live_at ss i) then Some i else None) p) ≡ option_and_then (λ i. if q (live_at (s ∷ ss) i) then Some i else None) (option_map suc p)
      shifted None = refl
      shifted (Some i) = elim (cases_Bool (q (live_at ss i))) [ inl f ↦ rw f refl | inr f ↦ rw f refl ]

  -- what is found by a key
  pub looked_up : (ss : List Slot) (i : Option ℕ) → IsDistinct same (map (λ s. s.0) ss) → i ≡ position (same (sid, r)) (map (λ s. s.0) ss) →
      option_and_then (λ i. if q (live_at ss i) then Some i else None) i ≡ first_index by_key ss
  looked_up ss i d e = ap (option_and_then (λ i. if q (live_at ss i) then Some i else None)) (e ∙ index_is_position (same (sid, r)) (map (λ s. s.0) ss)) ∙ sym (index_of_key ss d)

-- ---- a new key

new_entry : {X : Type 0} (es : List (Join × X)) (k : Join) (x : X) → list_any (same k) (map (λ e. e.0) es) ≡ false → insert_entry same es k x ≡ es ++ (k, x) ∷ []
new_entry [] k x h = refl
new_entry (e ∷ es) k x h = elim (cases_Bool (same k e.0)) [
  | inl q ↦ clash (list_any (same k) (map (λ e. e.0) (e ∷ es))) (ap (λ b. b || list_any (same k) (map (λ e. e.0) es)) q) h
  | inr q ↦ rw q (ap (λ l. e ∷ l) (new_entry es k x (sym (ap (λ b. b || list_any (same k) (map (λ e. e.0) es)) q) ∙ h)))
]

-- a key that isn't there goes last
pub entry_last : {X : Type 0} (es : List (Join × X)) (k : Join) (x : X) → ¬ Contains (map (λ e. e.0) es) k → insert_entry same es k x ≡ es ++ (k, x) ∷ []
entry_last es k x absent = elim (cases_Bool (list_any (same k) (map (λ e. e.0) es))) [
  | inl q ↦ absurd (absent ((any_same (map (λ e. e.0) es) k).0 q))
  | inr q ↦ new_entry es k x q
]

-- ---- a look-up for each role

-- the slots of roles below n
abbrev pub is_below : Bool → List ℕ → ℕ → Slot → Bool
is_below o sid n s = is_of o sid s && nat_lt (s.0).1 n

-- none is below 0
pub none_below : (o : Bool) (sid : List ℕ) (ss : List Slot) → first_index (is_below o sid 0) ss ≡ None
none_below o sid [] = refl
none_below o sid (s ∷ ss) = let e : nat_lt (s.0).1 0 ≡ false = grind (arith, nat_tests) in
    let t : is_below o sid 0 s ≡ false = ap (λ b. is_of o sid s && b) e ∙ and_false (is_of o sid s) in
    rw t (ap (option_map suc) (none_below o sid ss))

-- one more role
pub one_below : (o : Bool) (sid : List ℕ) (n : ℕ) (ss : List Slot) → first_index (is_below o sid (n + 1)) ss ≡ earlier_of (first_index (is_below o sid n) ss) (first_index (is_of_role o sid n) ss)
one_below o sid n ss = earlier_position (is_below o sid n) (is_of_role o sid n) (is_below o sid (n + 1)) (λ s. more (is_of o sid s) (s.0).1) ss
  where
    more : (b : Bool) (r : ℕ) → (b && nat_lt r (n + 1)) ≡ ((b && nat_lt r n) || (b && (r == n)))
    more false r = refl
    more true r = elim (cases_Bool (nat_lt r n)) [
      | inl e ↦ let f : nat_lt r (n + 1) ≡ true = grind (arith, nat_tests, e) in rw (e, f) refl
      | inr e ↦ elim (cases_Bool (r == n)) [
        | inl g ↦ let f : nat_lt r (n + 1) ≡ true = grind (arith, nat_tests, e, g) in rw (e, f, g) refl
        | inr g ↦ let f : nat_lt r (n + 1) ≡ false = grind (arith, nat_tests, e, g) in rw (e, f, g) refl
      ]
    ]

-- all are below a bound
pub all_below : (o : Bool) (sid : List ℕ) (n : ℕ) (ss : List Slot) → AllByRecursion (λ (s : Slot). (s.0).1 < n) ss → first_index (is_below o sid n) ss ≡ first_index (is_of o sid) ss
all_below o sid n ss h = same_position (λ (s : Slot). (s.0).1 < n) (is_below o sid n) (is_of o sid) (λ s l. full (is_of o sid s) (nat_lt (s.0).1 n) (grind (arith, nat_tests, l))) ss h
  where
    full : (a b : Bool) → b ≡ true → (a && b) ≡ a
    full a b e = rw e (and_true a)
