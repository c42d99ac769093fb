-- Slots in the table of sessions, and what is held there.
use Rattle.std.specs.Prelude.{◌≡◌, ℕ, suc, ◌+◌, ◌<◌, ◌||◌, nat_lt, Bool, true, false, if◌then◌else◌, List, [], ◌∷◌, ◌++◌, find, position, length, slice_get, refl, Option, Some, None, option_map, option_and_then, unwrap_or, is_some}
use Rattle.std.specs.List.{AllByRecursion, position_or_len}
use Rattle.std.specs.Option.{option_map_or}
use Rattle.std.proofs.Common.{sym, ◌∙◌, ap, subst, inl, inr, arith}
use Rattle.std.proofs.lemmas.Bool.Decides.{nat_tests}
use Rattle.std.proofs.lemmas.Bool.{cases_Bool}
use Rattle.indexmap.specs.IndexMap.{set_value_at}
use Rattle.sg_model.proofs.Small.{clash}
use Rattle.sg_protocol.specs.Representation.{Held}
use Rattle.sg_protocol.specs.NodeStates.{replace_held}
use Rattle.sg_node.specs.declared.sessions.Live.{Live}
use Rattle.sg_node.specs.Slots.{Slot, state_in, held_at, held_in, earlier_of, first_index}

-- ---- the first slot

-- it is where `position` finds it
pub index_is_position : {A : Type 0} (p : A → Bool) (xs : List A) → position p xs ≡ first_index p xs
index_is_position p [] = refl
index_is_position p (x ∷ xs) = elim (cases_Bool (p x)) [
  | inl e ↦
      let z : position_or_len p (x ∷ xs) ≡ 0 = rw e refl in
      let f : nat_lt 0 (length (x ∷ xs)) ≡ true = grind (arith, nat_tests) in
      rw e (rw f refl)
  | inr e ↦ rw e (next (position_or_len p xs) (length xs) ∙ ap (option_map suc) (index_is_position p xs))
]
  where
    next : (m n : ℕ) → (if nat_lt (1 + m) (suc n) then Some (1 + m) else None) ≡ option_map suc (if nat_lt m n then Some m else None)
    next m n = elim (cases_Bool (nat_lt m n)) [
      | inl e ↦ let f : nat_lt (1 + m) (suc n) ≡ true = grind (arith, nat_tests, e) in rw (e, f) (ap Some (one m))
      | inr e ↦ let f : nat_lt (1 + m) (suc n) ≡ false = grind (arith, nat_tests, e) in rw (e, f) refl
    ]
      where
        one : (m : ℕ) → 1 + m ≡ suc m
        one m = omega arith

-- ---- the first of two tests

earlier_suc : (a b : Option ℕ) → earlier_of (option_map suc a) (option_map suc b) ≡ option_map suc (earlier_of a b)
earlier_suc None b = refl
earlier_suc (Some a) None = refl
earlier_suc (Some a) (Some b) = elim (cases_Bool (nat_lt a b)) [
  | inl e ↦ let f : nat_lt (suc a) (suc b) ≡ true = grind (arith, nat_tests, e) in rw (e, f) refl
  | inr e ↦ let f : nat_lt (suc a) (suc b) ≡ false = grind (arith, nat_tests, e) in rw (e, f) refl
]

earlier_first : (b : Option ℕ) → earlier_of (Some 0) (option_map suc b) ≡ Some 0
earlier_first None = refl
earlier_first (Some b) = let f : nat_lt 0 (suc b) ≡ true = grind (arith, nat_tests) in rw f refl

earlier_second : (a : Option ℕ) → earlier_of (option_map suc a) (Some 0) ≡ Some 0
earlier_second None = refl
earlier_second (Some a) = let f : nat_lt (suc a) 0 ≡ false = grind (arith, nat_tests) in rw f refl

-- the first that passes one of two tests
pub earlier_position : {A : Type 0} (p q r : A → Bool) → ((x : A) → r x ≡ (p x || q x)) → (xs : List A) → first_index r xs ≡ earlier_of (first_index p xs) (first_index q xs)
earlier_position p q r e [] = refl
earlier_position p q r e (x ∷ xs) = elim (cases_Bool (p x)) [
  | inl a ↦ elim (cases_Bool (q x)) [
    | inl b ↦ rw (e x, a, b) refl
    | inr b ↦ rw (e x, a, b) (sym (earlier_first (first_index q xs)))
  ]
  | inr a ↦ elim (cases_Bool (q x)) [
    | inl b ↦ rw (e x, a, b) (sym (earlier_second (first_index p xs)))
    | inr b ↦ rw (e x, a, b) (ap (option_map suc) (earlier_position p q r e xs) ∙ sym (earlier_suc (first_index p xs) (first_index q xs)))
  ]
]

-- two tests that agree find one slot
pub same_position : {A : Type 0} (P : A → Type 0) (p q : A → Bool) → ((x : A) → P x → p x ≡ q x) → (xs : List A) → AllByRecursion P xs → first_index p xs ≡ first_index q xs
same_position P p q e [] h = refl
same_position P p q e (x ∷ xs) h = elim (cases_Bool (q x)) [
  | inl b ↦ rw (e x h.0, b) refl
  | inr b ↦ rw (e x h.0, b) (ap (option_map suc) (same_position P p q e xs h.1))
]

-- ---- what is held at the first slot that passes

-- what is live in a slot
abbrev pub live_at : List Slot → ℕ → Option Live
live_at slots i = option_and_then (λ s. s.1) (slice_get slots i)

pub some_none : {A B : Type 0} (x : A) → Some x ≡ None → B
some_none x e = clash true refl (ap is_some e)

no_suc : (o : Option ℕ) → option_map suc o ≡ None → o ≡ None
no_suc None e = refl
no_suc (Some x) e = some_none (suc x) e

module _ (which : Held → Bool) (test : Slot → Bool) where
  -- the test of a slot is that of what is held there
  abbrev pub Tests : Slot → Type 0
  Tests s = test s ≡ option_map_or (λ l. which (state_in l).held) s.1 false

  -- the first that is held is the one in this slot, and to write there is to replace it
  pub record First (slots : List Slot) (i : ℕ) : Type 0 where
    pub live : Live
    pub there : live_at slots i ≡ Some live
    pub within : i < length slots
    pub passes : which (state_in live).held ≡ true
    pub found : find which (held_in slots) ≡ Some (state_in live).held
    pub replaced : (w : Option Live) (now : Held → List Held) → now (state_in live).held ≡ held_at w → held_in (set_value_at slots i w) ≡ replace_held which now (held_in slots)

  none_more : (k : List ℕ × ℕ) (l : Live) (slots : List Slot) → Tests (k, Some l) → (first_index test slots ≡ None → find which (held_in slots) ≡ None) → (b : Bool) → which (state_in l).held ≡ b → first_index test ((k, Some l) ∷ slots) ≡ None → find which ((state_in l).held ∷ held_in slots) ≡ None
  none_more k l slots h more true q e = some_none 0 (sym (ap (λ b. if b then Some 0 else option_map suc (first_index test slots)) (h ∙ q)) ∙ e)
  none_more k l slots h more false q e = rw q (more (no_suc (first_index test slots) (sym (ap (λ b. if b then Some 0 else option_map suc (first_index test slots)) (h ∙ q)) ∙ e)))

  -- if no slot passes nothing that is held does
  pub none_held : (slots : List Slot) → AllByRecursion Tests slots → first_index test slots ≡ None → find which (held_in slots) ≡ None
  none_held [] h e = refl
  none_held ((k, None) ∷ slots) h e = none_held slots h.1 (no_suc (first_index test slots) (sym (ap (λ b. if b then Some 0 else option_map suc (first_index test slots)) h.0) ∙ e))
  none_held ((k, Some l) ∷ slots) h e = none_more k l slots h.0 (none_held slots h.1) (which (state_in l).held) refl e

  after_empty : (k : List ℕ × ℕ) (slots : List Slot) (i : ℕ) → First slots i → First ((k, None) ∷ slots) (suc i)
  after_empty k slots i f = record {
    live = f.live;
    there = f.there;
    within = let w = f.within in omega (arith, w);
    passes = f.passes;
    found = f.found;
    replaced = f.replaced;
  }

  after_live : (k : List ℕ × ℕ) (l : Live) (slots : List Slot) (i : ℕ) → which (state_in l).held ≡ false → First slots i → First ((k, Some l) ∷ slots) (suc i)
  after_live k l slots i q f = record {
    live = f.live;
    there = f.there;
    within = let w = f.within in omega (arith, w);
    passes = f.passes;
    found = rw q f.found;
    replaced = λ w now e. rw q (ap (λ hs. (state_in l).held ∷ hs) (f.replaced w now e));
  }

  at_head : (k : List ℕ × ℕ) (l : Live) (slots : List Slot) → which (state_in l).held ≡ true → First ((k, Some l) ∷ slots) 0
  at_head k l slots q = record {
    live = l;
    there = refl;
    within = omega arith;
    passes = q;
    found = rw q refl;
    replaced = λ w now e. rw q (ap (λ hs. hs ++ held_in slots) (sym e));
  }

  further : (s : Slot) (slots : List Slot) (i : ℕ) → ((j : ℕ) → First slots j → First (s ∷ slots) (suc j)) → ((j : ℕ) → first_index test slots ≡ Some j → First slots j) → (o : Option ℕ) → first_index test slots ≡ o → option_map suc o ≡ Some i → First (s ∷ slots) i
  further s slots i more its None p e = some_none i (sym e)
  further s slots i more its (Some j) p e = subst (First (s ∷ slots)) (ap (λ o. unwrap_or o 0) e) (more j (its j p))

  at_live : (k : List ℕ × ℕ) (l : Live) (slots : List Slot) (i : ℕ) → Tests (k, Some l) → ((j : ℕ) → first_index test slots ≡ Some j → First slots j) → (b : Bool) → which (state_in l).held ≡ b → first_index test ((k, Some l) ∷ slots) ≡ Some i → First ((k, Some l) ∷ slots) i
  at_live k l slots i h its true q e = subst (First ((k, Some l) ∷ slots)) (ap (λ o. unwrap_or o 0) (sym (ap (λ b. if b then Some 0 else option_map suc (first_index test slots)) (h ∙ q)) ∙ e)) (at_head k l slots q)
  at_live k l slots i h its false q e = further (k, Some l) slots i (λ j. after_live k l slots j q) its (first_index test slots) refl (sym (ap (λ b. if b then Some 0 else option_map suc (first_index test slots)) (h ∙ q)) ∙ e)

  -- the first that passes
  pub held_first : (slots : List Slot) (i : ℕ) → AllByRecursion Tests slots → first_index test slots ≡ Some i → First slots i
  held_first [] i h e = some_none i (sym e)
  held_first ((k, None) ∷ slots) i h e = further (k, None) slots i (after_empty k slots) (λ j. held_first slots j h.1) (first_index test slots) refl (sym (ap (λ b. if b then Some 0 else option_map suc (first_index test slots)) h.0) ∙ e)
  held_first ((k, Some l) ∷ slots) i h e = at_live k l slots i h.0 (λ j. held_first slots j h.1) (which (state_in l).held) refl e
