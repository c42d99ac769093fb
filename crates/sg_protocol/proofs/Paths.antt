-- From the law's walk with values to the stored walk that explains events.
use Rattle.std.specs.Prelude.{◌≡◌, ℕ, zero, suc, ◌==◌, nat_lt, if◌then◌else◌, get_or, All, ◌||◌, ◌&&◌, ◌⊎◌, Bool, true, false, not, List, [], ◌∷◌, ◌++◌, map, flat_map, length, refl, Option, Some, None, option_map, unwrap_or, is_none, IfSome, IsSomeAnd, IsTrue}
use Rattle.std.specs.List.{list_all, AllByRecursion}
use Rattle.std.specs.Option.{option_or}
use Rattle.std.specs.Bool.{beq}
use Rattle.std.proofs.Common.{sym, ◌∙◌, ap, subst, inl, inr, arith, append_assoc}
use Rattle.std.proofs.lemmas.Bool.{eqb-true, eq-eqb, or_cases, cases_Bool, and_from, not-true, not-false, and_parts}
use Rattle.std.proofs.lemmas.List.Elements.{All-head, All-tail}
use Rattle.sg_model.specs.Last.{Map, merge, last, last_or}
use Rattle.sg_model.specs.Lists.{is_in, value_at, keys_of, rises_from}
use Rattle.sg_model.specs.Shape.{Arrow, Walk, sender, receiver}
use Rattle.sg_model.specs.Values.{Value}
use Rattle.sg_model.proofs.Small.{and_true, and_left}
use Rattle.sg_model.proofs.Numbers.{low_none}
use Rattle.sg_protocol.specs.Graph.{Graph, Edge, IsGraph, AreNumbers, shape, writes, reads}
use Rattle.sg_protocol.specs.Calls.{Event}
use Rattle.sg_protocol.specs.Acting.{is_typed}
use Rattle.sg_protocol.specs.Walk as A
use Rattle.sg_protocol.specs.Walk.{StoredStep, Act, Sends, Receives, act_if, honest_acts, acts_of_event, stored, is_carried, are_hidden, is_typed_or_hidden, IsStoredStep, OnePath}
use Rattle.sg_law.specs.Accept.{TimedLabel}
use Rattle.sg_law.specs.Values.{Stored, along, Deed, Move, Commit, Followed, after_step, value_read, read_values, wrote_if, read_if, deeds, carried, AllExact, Exact, named, nothing_stored, deed_of}
use Rattle.sg_law.specs.Values.Deed.{WroteAlong, ReadAlong}
use Rattle.sg_law.proofs.Com.{value_at-unnamed}
use Rattle.sg_law.proofs.Carried.{named-in}
use Rattle.sg_law.proofs.Com.{value_at-merge}

-- ---- the same words

seen_same : (o : Option (Option Value)) → value_read o ≡ unwrap_or o None
seen_same None = refl
seen_same (Some r) = refl

pub flat_map-append : {X Y : Type 0} (f : X → List Y) (xs ys : List X) → flat_map f (xs ++ ys) ≡ flat_map f xs ++ flat_map f ys
flat_map-append f [] ys = refl
flat_map-append f (x ∷ xs) ys = ap (λ l. f x ++ l) (flat_map-append f xs ys) ∙ sym (assoc (f x) (flat_map f xs) (flat_map f ys))
  where
    assoc : {A : Type 0} (a b c : List A) → (a ++ b) ++ c ≡ a ++ (b ++ c)
    assoc [] b c = refl
    assoc (x ∷ a) b c = ap (λ l. x ∷ l) (assoc a b c)

-- what a deed of the law does on a stored walk
abbrev pub acts_of : Graph → Deed → List Act
acts_of g (WroteAlong e ws) = Sends (sender (shape g) e) e ws ∷ []
acts_of g (ReadAlong None ws) = []
acts_of g (ReadAlong (Some e) ws) = Receives (receiver (shape g) e) e ws ∷ []

abbrev pub step_of : Stored → StoredStep
step_of s = record { label = along s; writes = s.values }

abbrev pub steps_of : List Stored → List StoredStep
steps_of ss = map step_of ss

last_steps : (ss : List Stored) → last (steps_of ss) ≡ option_map step_of (last ss)
last_steps [] = refl
last_steps (s ∷ ss) = go s ss
  where
    go : (s : Stored) (ss : List Stored) → Some (last_or (step_of s) (steps_of ss)) ≡ Some (step_of (last_or s ss))
    go s [] = refl
    go s (t ∷ ts) = go t ts

labels_same : (ss : List Stored) → A.labels (steps_of ss) ≡ map (λ (t : TimedLabel). t.label) (map (λ (s : Stored). s.step) ss)
labels_same [] = refl
labels_same (s ∷ ss) = ap (λ l. along s ∷ l) (labels_same ss)

module _ (g : Graph) (honest : ℕ → Bool) where
  read_stored : (st : ℕ → Option (Option Value)) (store : Map (Option Value)) → ((x : ℕ) → st x ≡ value_at store x) → (xs : List ℕ) → read_values st xs ≡ stored store xs
  read_stored st store same [] = refl
  read_stored st store same (x ∷ xs) = ap (λ (o : Option Value). (x, o) ∷ read_values st xs) (ap value_read (same x) ∙ seen_same (value_at store x)) ∙ ap (λ l. (x, unwrap_or (value_at store x) None) ∷ l) (read_stored st store same xs)

  store_after : (st : ℕ → Option (Option Value)) (store : Map (Option Value)) → ((x : ℕ) → st x ≡ value_at store x) → (s : Stored) (x : ℕ) → after_step st s x ≡ value_at (merge store s.values) x
  store_after st store same s x = ap (option_or (value_at s.values x)) (same x) ∙ sym (value_at-merge store s.values x)

  wrote_acts : (b : Bool) (s : Stored) → flat_map (acts_of g) (wrote_if b s) ≡ act_if b (Sends (sender (shape g) (along s)) (along s) s.values)
  wrote_acts true s = refl
  wrote_acts false s = refl

  read_acts : (b : Bool) (st : ℕ → Option (Option Value)) (store : Map (Option Value)) → ((x : ℕ) → st x ≡ value_at store x) → (s : Stored) → flat_map (acts_of g) (read_if b (shape g) st s) ≡ act_if b (Receives (receiver (shape g) (along s)) (along s) (stored store (reads g (along s))))
  read_acts true st store same s = ap (λ ws. Receives (receiver (shape g) (along s)) (along s) ws ∷ []) (read_stored st store same (reads g (along s)))
  read_acts false st store same s = refl

  close_acts : (early b : Bool) (ds : List Deed) (act : Act) → flat_map (acts_of g) ds ≡ act_if b act → flat_map (acts_of g) (if early then [] else ds) ≡ act_if (b && not early) act ++ []
  close_acts true true ds act e = refl
  close_acts true false ds act e = refl
  close_acts false true ds act e = e
  close_acts false false ds act e = e

  pub acts_same : (early : Bool) (st : ℕ → Option (Option Value)) (store : Map (Option Value)) → ((x : ℕ) → st x ≡ value_at store x) → (ss : List Stored) → flat_map (acts_of g) (deeds (shape g) honest early st ss) ≡ honest_acts g honest (not early) store (steps_of ss)
  acts_same early st store same [] = refl
  acts_same early st store same (s ∷ []) =
      flat_map-append (acts_of g) (wrote_if (honest (sender (shape g) (along s))) s) (if early then [] else read_if (honest (receiver (shape g) (along s))) (shape g) (after_step st s) s)
      ∙ ap (λ l. l ++ flat_map (acts_of g) (if early then [] else read_if (honest (receiver (shape g) (along s))) (shape g) (after_step st s) s)) (wrote_acts (honest (sender (shape g) (along s))) s)
      ∙ ap (λ l. act_if (honest (sender (shape g) (along s))) (Sends (sender (shape g) (along s)) (along s) s.values) ++ l)
      (close_acts early (honest (receiver (shape g) (along s))) (read_if (honest (receiver (shape g) (along s))) (shape g) (after_step st s) s) (Receives (receiver (shape g) (along s)) (along s) (stored (merge store s.values) (reads g (along s))))
      (read_acts (honest (receiver (shape g) (along s))) (after_step st s) (merge store s.values) (store_after st store same s) s))
      ∙ sym (append_assoc (act_if (honest (sender (shape g) (along s))) (Sends (sender (shape g) (along s)) (along s) s.values))
      (act_if (honest (receiver (shape g) (along s)) && not early) (Receives (receiver (shape g) (along s)) (along s) (stored (merge store s.values) (reads g (along s))))) [])
  acts_same early st store same (s ∷ t ∷ ss) =
      let w : List Deed = wrote_if (honest (sender (shape g) (along s))) s in
      let r : List Deed = read_if (honest (receiver (shape g) (along s))) (shape g) (after_step st s) s in
      let ds : List Deed = deeds (shape g) honest early (after_step st s) (t ∷ ss) in
      flat_map-append (acts_of g) w (r ++ ds)
      ∙ ap (λ l. l ++ flat_map (acts_of g) (r ++ ds)) (wrote_acts (honest (sender (shape g) (along s))) s)
      ∙ ap (λ l. act_if (honest (sender (shape g) (along s))) (Sends (sender (shape g) (along s)) (along s) s.values) ++ l)
      (flat_map-append (acts_of g) r ds
      ∙ ap (λ l. l ++ flat_map (acts_of g) ds) (read_acts (honest (receiver (shape g) (along s))) (after_step st s) (merge store s.values) (store_after st store same s) s
      ∙ ap (λ b. act_if b (Receives (receiver (shape g) (along s)) (along s) (stored (merge store s.values) (reads g (along s))))) (sym (and_true (honest (receiver (shape g) (along s))))))
      ∙ ap (λ l. act_if (honest (receiver (shape g) (along s)) && true) (Receives (receiver (shape g) (along s)) (along s) (stored (merge store s.values) (reads g (along s)))) ++ l)
      (acts_same early (after_step st s) (merge store s.values) (store_after st store same s) (t ∷ ss)))
      ∙ sym (append_assoc (act_if (honest (sender (shape g) (along s))) (Sends (sender (shape g) (along s)) (along s) s.values))
      (act_if (honest (receiver (shape g) (along s)) && true) (Receives (receiver (shape g) (along s)) (along s) (stored (merge store s.values) (reads g (along s)))))
      (honest_acts g honest (not early) (merge store s.values) (steps_of (t ∷ ss))))

  -- ---- hidden values

  pub carried_same : (early : Bool) (x : ℕ) (s : Stored) (ss : List Stored) → carried (shape g) honest early x (along s) (map along ss) ≡ is_carried g honest (not early) x (steps_of (s ∷ ss))
  carried_same early x s [] = go early (honest (receiver (shape g) (along s))) (is_in x (reads g (along s)))
    where
      go : (e h i : Bool) → (not e && (h && i)) ≡ ((h && not e && i) || (true && false))
      go true true i = refl
      go true false i = refl
      go false true true = refl
      go false true false = refl
      go false false i = refl
  carried_same early x s (t ∷ ts) =
      ap (λ c. (honest (receiver (shape g) (along s)) && is_in x (reads g (along s))) || (not (is_in x (writes g (along t))) && c)) (carried_same early x t ts)
      ∙ ap (λ h. h || (not (is_in x (writes g (along t))) && is_carried g honest (not early) x (steps_of (t ∷ ts)))) (go (honest (receiver (shape g) (along s))) (is_in x (reads g (along s))))
    where
      go : (h i : Bool) → (h && i) ≡ (h && true && i)
      go true i = refl
      go false i = refl

  -- what holds of all that is looked up holds of all
  all_looked_up : (P : ℕ × Option Value → Bool) (m : Map (Option Value)) (n : ℕ) → rises_from n (keys_of m) ≡ true → ((x : ℕ) (r : Option Value) → value_at m x ≡ Some r → P (x, r) ≡ true) → list_all P m ≡ true
  all_looked_up P [] n up f = refl
  all_looked_up P (w ∷ ws) n up f =
      let ups = and_parts (not (nat_lt w.0 n)) (rises_from (suc w.0) (keys_of ws)) up in
      and_from (P w) (list_all P ws) (f w.0 w.1 (rw (eq-eqb w.0 w.0 refl) refl)) (all_looked_up P ws (suc w.0) ups.1 (λ x r e. f x r (at x r e ups.1)))
    where
      at : (x : ℕ) (r : Option Value) → value_at ws x ≡ Some r → rises_from (suc w.0) (keys_of ws) ≡ true → value_at (w ∷ ws) x ≡ Some r
      at x r e up' = elim (cases_Bool (w.0 == x)) [
        | inl d ↦ (let same : w.0 ≡ x = eqb-true w.0 x d in let none : value_at ws x ≡ None = low_none ws x (suc w.0) (omega arith) up' in absurd (cc))
        | inr d ↦ rw d e
      ]

  -- ---- types

  abbrev pub TypedDeed : Deed → Type 0
  TypedDeed (WroteAlong e ws) = list_all (is_typed_or_hidden g) ws ≡ true
  TypedDeed (ReadAlong o ws) = list_all (is_typed_or_hidden g) ws ≡ true

  all_parts : (xs ys : List Deed) → AllByRecursion TypedDeed (xs ++ ys) → AllByRecursion TypedDeed xs × AllByRecursion TypedDeed ys
  all_parts [] ys h = (tt, h)
  all_parts (x ∷ xs) ys h = let r = all_parts xs ys h.1 in ((h.0, r.0), r.1)

  read_typed : (st : ℕ → Option (Option Value)) (xs : List ℕ) (x : ℕ) (v : Value) → list_all (is_typed_or_hidden g) (read_values st xs) ≡ true → is_in x xs ≡ true → st x ≡ Some (Some v) → is_typed g (x, v) ≡ true
  read_typed st [] x v t i e = absurd (cc)
  read_typed st (y ∷ ys) x v t i e =
      let ts = and_parts (is_typed_or_hidden g (y, value_read (st y))) (list_all (is_typed_or_hidden g) (read_values st ys)) t in
      elim (cases_Bool (y == x)) [
        | inl d ↦ subst (λ r. is_typed_or_hidden g (x, value_read r) ≡ true) e (subst (λ z. is_typed_or_hidden g (z, value_read (st z)) ≡ true) (eqb-true y x d) ts.0)
        | inr d ↦ read_typed st ys x v ts.1 (rw d at i) e
      ]

  abbrev later_deeds : Bool → (ℕ → Option (Option Value)) → Stored → List Stored → List Deed
  later_deeds early st s [] = if early then [] else read_if (honest (receiver (shape g) (along s))) (shape g) (after_step st s) s
  later_deeds early st s (t ∷ ts) = read_if (honest (receiver (shape g) (along s))) (shape g) (after_step st s) s ++ deeds (shape g) honest early (after_step st s) (t ∷ ts)

  deeds_parts : (early : Bool) (st : ℕ → Option (Option Value)) (s : Stored) (ss : List Stored) → deeds (shape g) honest early st (s ∷ ss) ≡ wrote_if (honest (sender (shape g) (along s))) s ++ later_deeds early st s ss
  deeds_parts early st s [] = refl
  deeds_parts early st s (t ∷ ts) = refl

  receipt_typed : (b : Bool) (st : ℕ → Option (Option Value)) (s : Stored) (x : ℕ) (v : Value) → st x ≡ Some (Some v) → AllByRecursion TypedDeed (read_if b (shape g) st s) → (b && is_in x (reads g (along s))) ≡ true → is_typed g (x, v) ≡ true
  receipt_typed true st s x v e all c = read_typed st (reads g (along s)) x v all.0 c e
  receipt_typed false st s x v e all c = absurd (cc)

  typed_carried : (early : Bool) (st : ℕ → Option (Option Value)) (s : Stored) (ss : List Stored) (x : ℕ) (v : Value) → AllByRecursion (named (shape g)) ss → after_step st s x ≡ Some (Some v) → AllByRecursion TypedDeed (later_deeds early st s ss) → carried (shape g) honest early x (along s) (map along ss) ≡ true → is_typed g (x, v) ≡ true
  typed_carried true st s [] x v names e all c = absurd (cc)
  typed_carried false st s [] x v names e all c = receipt_typed (honest (receiver (shape g) (along s))) (after_step st s) s x v e all c
  typed_carried early st s (t ∷ ts) x v names e all c =
      let parts = all_parts (read_if (honest (receiver (shape g) (along s))) (shape g) (after_step st s) s) (deeds (shape g) honest early (after_step st s) (t ∷ ts)) all in
      let later = all_parts (wrote_if (honest (sender (shape g) (along t))) t) (later_deeds early (after_step st s) t ts) (subst (AllByRecursion TypedDeed) (deeds_parts early (after_step st s) t ts) parts.1) in
      elim (or_cases (honest (receiver (shape g) (along s)) && is_in x (reads g (along s))) (not (is_in x (writes g (along t))) && carried (shape g) honest early x (along t) (map along ts)) c) [
        | inl d ↦ receipt_typed (honest (receiver (shape g) (along s))) (after_step st s) s x v e parts.0 d
        | inr d ↦
            let ds = and_parts (not (is_in x (writes g (along t)))) (carried (shape g) honest early x (along t) (map along ts)) d in
            let none : value_at t.values x ≡ None = value_at-unnamed t.values x (named-in (shape g) t x names.0 ∙ not-true (is_in x (writes g (along t))) ds.0) in
            typed_carried early (after_step st s) t ts x v names.1 (ap (λ o. option_or o (after_step st s x)) none ∙ e) later.1 ds.1
      ]

  module _ (rises : (e : ℕ) → rises_from 0 (writes g e) ≡ true) where
    typed_steps : (early : Bool) (st : ℕ → Option (Option Value)) (ss : List Stored) → AllByRecursion (named (shape g)) ss → AllByRecursion TypedDeed (deeds (shape g) honest early st ss) → AllExact (shape g) honest early ss → AllByRecursion (IsStoredStep g) (steps_of ss)
    typed_steps early st [] names all exact = tt
    typed_steps early st (s ∷ ss) names all exact =
        let parts = all_parts (wrote_if (honest (sender (shape g) (along s))) s) (later_deeds early st s ss) (subst (AllByRecursion TypedDeed) (deeds_parts early st s ss) all) in (
          (
            names.0,
            elim (cases_Bool (honest (sender (shape g) (along s)))) [
              | inl is ↦ wrote (honest (sender (shape g) (along s))) is parts.0
              | inr dis ↦ all_looked_up (is_typed_or_hidden g) s.values 0 (ap (rises_from 0) names.0 ∙ rises (along s)) (λ x r e. looked_up x r dis e (exact.0 x) parts.1)
            ],
          ),
          typed_steps early (after_step st s) ss names.1 (rest ss parts.1) exact.1,
        )
      where
        wrote : (b : Bool) → b ≡ true → AllByRecursion TypedDeed (wrote_if b s) → list_all (is_typed_or_hidden g) s.values ≡ true
        wrote true e h = h.0
        wrote false e h = absurd (cc)

        rest : (zs : List Stored) → AllByRecursion TypedDeed (later_deeds early st s zs) → AllByRecursion TypedDeed (deeds (shape g) honest early (after_step st s) zs)
        rest [] h = tt
        rest (z ∷ zs) h = (all_parts (read_if (honest (receiver (shape g) (along s))) (shape g) (after_step st s) s) (deeds (shape g) honest early (after_step st s) (z ∷ zs)) h).1

        looked_up : (x : ℕ) (r : Option Value) → honest (sender (shape g) (along s)) ≡ false → value_at s.values x ≡ Some r → IfSome (value_at s.values x) (λ r. Exact (shape g) honest early x r (along s) (map along ss)) → AllByRecursion TypedDeed (later_deeds early st s ss) → is_typed_or_hidden g (x, r) ≡ true
        looked_up x None dis e ex h = refl
        looked_up x (Some v) dis e ex h =
            let ex' : Exact (shape g) honest early x (Some v) (along s) (map along ss) = subst (λ o. IfSome o (λ r. Exact (shape g) honest early x r (along s) (map along ss))) e ex in
            elim (cases_Bool (carried (shape g) honest early x (along s) (map along ss))) [
              | inl c ↦ typed_carried early st s ss x v names.1 (ap (λ o. option_or o (st x)) e) h c
              | inr c ↦ (let none = ex'.shown dis c in absurd (cc))
            ]

    hidden_steps : (early : Bool) (ss : List Stored) → AllByRecursion (named (shape g)) ss → AllExact (shape g) honest early ss → are_hidden g honest (not early) (steps_of ss) ≡ true
    hidden_steps early [] names exact = refl
    hidden_steps early (s ∷ ss) names exact =
        and_from _ _ (all_looked_up _ s.values 0 (ap (rises_from 0) names.0 ∙ rises (along s)) (λ x r e. at x r (subst (λ o. IfSome o (λ r. Exact (shape g) honest early x r (along s) (map along ss))) e (exact.0 x)))) (hidden_steps early ss names.1 exact.1)
      where
        at : (x : ℕ) (r : Option Value) → Exact (shape g) honest early x r (along s) (map along ss) → beq (is_none r) (not (honest (sender (shape g) (along s))) && not (is_carried g honest (not early) x (steps_of (s ∷ ss)))) ≡ true
        at x None ex = (let a = (ex.hidden refl).0 in let b = sym (carried_same early x s ss) ∙ (ex.hidden refl).1 in rw (a, b) refl)
        at x (Some v) ex = elim (cases_Bool (honest (sender (shape g) (along s)))) [
          | inl a ↦ rw a refl
          | inr a ↦ elim (cases_Bool (is_carried g honest (not early) x (steps_of (s ∷ ss)))) [
            | inl b ↦ rw (a, b) refl
            | inr b ↦ (let none = ex.shown a (carried_same early x s ss ∙ b) in absurd (cc))
          ]
        ]

-- what an edge writes rises
edge_fact : (P : Edge → Type 0) (Q : Arrow → Type 0) → ((e : Edge) → P e → Q (record { source = e.source; target = e.target; writes = e.writes; reads = e.reads })) → Q (record { source = 0; target = 0; writes = []; reads = [] }) → (es : List Edge) → All P es → (k : ℕ)
    → Q (get_or (map (λ (e : Edge). record { source = e.source; target = e.target; writes = e.writes; reads = e.reads }) es) k (record { source = 0; target = 0; writes = []; reads = [] }))
edge_fact P Q f d [] all k = d
edge_fact P Q f d (e ∷ es) all zero = f e (All-head P e es all)
edge_fact P Q f d (e ∷ es) all (suc k) = edge_fact P Q f d es (All-tail P e es all) k

pub writes_rise : (g : Graph) → IsGraph g → (e : ℕ) → rises_from 0 (writes g e) ≡ true
writes_rise g is e = edge_fact (λ (e : Edge). AreNumbers (length g.variables) e.writes × AreNumbers (length g.variables) e.reads) (λ (a : Arrow). rises_from 0 a.writes ≡ true) (λ e h. and_left (rises_from 0 e.writes) _ h.0) refl g.edges is.variables e

-- the walk of the law is the stored walk of the events
pub one_path : (g : Graph) (honest : ℕ → Bool) (commit : Commit) (moves : List Move) (events : List Event) → IsGraph g → (f : Followed (shape g) honest commit moves) →
    flat_map acts_of_event events ≡ flat_map (acts_of g) (map deed_of moves) → AllByRecursion (TypedDeed g honest) (map deed_of moves) → OnePath g honest events (steps_of f.steps)
one_path g honest commit moves events is f same typed = record {
  taken = not f.early;
  walk = record {
    walk = subst (Walk (shape g) 0) (sym (labels_same f.steps ∙ ap (λ l. map (λ (t : TimedLabel). t.label) l) f.same)) f.plain.walk;
    values = typed_steps g honest (writes_rise g is) f.early nothing_stored f.steps f.names (subst (AllByRecursion (TypedDeed g honest)) (sym f.done) typed) f.exact;
  };
  ends_honest = subst (λ o. IfSome o (λ s. IsTrue (honest (sender (shape g) s.label) || honest (receiver (shape g) s.label)))) (sym (last_steps f.steps)) (held_of (last f.steps) f.ends);
  explained = same ∙ ap (flat_map (acts_of g)) (sym f.done) ∙ acts_same g honest f.early nothing_stored [] (λ x. refl) f.steps;
  may_come = λ e. subst (λ o. IfSome o (λ s. IsTrue (honest (sender (shape g) s.label) && honest (receiver (shape g) s.label)))) (sym (last_steps f.steps)) (awaited_of (last f.steps) (f.to_come (not-false f.early e)));
  hidden = hidden_steps g honest (writes_rise g is) f.early f.steps f.names f.exact;
}
  where
    or_true : (a b : Bool) → (a ≡ true) ⊎ (b ≡ true) → (a || b) ≡ true
    or_true true b h = refl
    or_true false b (inl h) = absurd (cc)
    or_true false b (inr h) = h

    held_of : (o : Option Stored) → IfSome o (λ (s : Stored). (honest (sender (shape g) (along s)) ≡ true) ⊎ (honest (receiver (shape g) (along s)) ≡ true)) → IfSome (option_map step_of o) (λ s. IsTrue (honest (sender (shape g) s.label) || honest (receiver (shape g) s.label)))
    held_of None h = tt
    held_of (Some s) h = or_true _ _ h

    awaited_of : (o : Option Stored) → IsSomeAnd o (λ (s : Stored). (honest (sender (shape g) (along s)) ≡ true) × (honest (receiver (shape g) (along s)) ≡ true)) → IfSome (option_map step_of o) (λ s. IsTrue (honest (sender (shape g) s.label) && honest (receiver (shape g) s.label)))
    awaited_of None h = tt
    awaited_of (Some s) h = and_from _ _ h.0 h.1
