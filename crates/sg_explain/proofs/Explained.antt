-- The events of a session against the honest part of a walk, step by step.
use Rattle.std.proofs.Common.{◌≡◌, ℕ, zero, suc, ◌+◌, ◌<◌, ◌≤◌, ◌==◌, nat_lt, Bool, true, false, not, ◌&&◌, ◌||◌, if◌then◌else◌, List, [], ◌∷◌, ◌++◌, map, drop, length, get_or, refl, ap, sym, ◌∙◌, subst, inl, inr, arith, ◌↔◌, replicate}
use Rattle.std.proofs.lemmas.List.{get_or-replicate}
use Rattle.std.specs.Prelude.{Option, Some, None, IsTrue, IfSome, unwrap_or, flat_map, slice_get, MatchOption, is_none}
use Rattle.std.specs.List.{list_all}
use Rattle.std.proofs.lemmas.Bool.Decides.{nat_tests}
use Rattle.std.proofs.lemmas.Bool.{cases_Bool, and_parts}
use Rattle.sg_model.specs.Last.{Map, merge}
use Rattle.sg_model.specs.Lists.{is_in, value_at, keys_of}
use Rattle.sg_model.specs.Shape.{sender, receiver}
use Rattle.sg_base.specs.declared.value.Value.{Value as Held}
use Rattle.sg_model.specs.Values.{Value}
use Rattle.sg_model.proofs.Small.{drop_from, drop_end}
use Rattle.sg_protocol.specs.Graph.{Graph, shape, reads}
use Rattle.sg_protocol.specs.Walk.{StoredStep, Act, Sends, Receives, act_if, counts, honest_acts, acts_of_event, stored, shown}
use Rattle.sg_law.proofs.Com.{value_at-merge}
use Rattle.sg_protocol.proofs.Known.{value_none}
use Rattle.sg_explain.specs.Matching.{IsNextAct, Takes, acts_from, is_start, kept, value_from}
use Rattle.sg_walk.specs.Model.{event_of, step_of, values_of, writes_of}
use Rattle.sg_walk.specs.declared.event.Event.{Event as CodeEvent}
use Rattle.sg_walk.specs.declared.event.Event.TheVariants.{Started, Sent, Received}
use Rattle.sg_walk.specs.declared.stored.StoredStep.{StoredStep as Step}
use Rattle.sg_explain.proofs.Pairs.{cons_head}
use Rattle.sg_explain.proofs.Steps.{keys_writes}

-- ---- the events

-- another event does one thing
one_act : (e : CodeEvent) → is_start e ≡ false → (a : Act) × (acts_of_event (event_of e) ≡ a ∷ [])
one_act (Started sid r) h = absurd (cc)
one_act (Sent sid r label time values) h = (_, refl)
one_act (Received sid r label time values joins) h = (_, refl)

-- what is done from an index on, with the event of the index in front
acts_next : (events : List CodeEvent) (at : ℕ) (e : CodeEvent) → at < length events → e ≡ get_or events at e → acts_from events at ≡ acts_of_event (event_of e) ++ acts_from events (suc at)
acts_next events at e l is = ap (λ l. flat_map acts_of_event (map event_of l)) (drop_from events at e l is)

not_start : (events : List CodeEvent) (at : ℕ) (e : CodeEvent) → at < length events → e ≡ get_or events at e → IfSome (slice_get events at) (λ e. is_start e ≡ false) → is_start e ≡ false
not_start [] at e l is h = absurd (omega arith)
not_start (x ∷ xs) zero e l is h = subst (λ y. is_start y ≡ false) (sym is) h
not_start (x ∷ xs) (suc at) e l is h = not_start xs at e (omega arith) is h

-- ---- one act of an honest role

pub takes_other : (events : List CodeEvent) (from at : ℕ) (e : CodeEvent) (b : Bool) (a : Act) → b ≡ true → e ≡ get_or events at e → IsNextAct events from at
    → (acts_of_event (event_of e) ≡ a ∷ [] → ⊥) → Takes events from (act_if b a) None
takes_other events from at e false a h is n d = absurd (cc)
takes_other events from at e true a h is n d = λ rest q.
    let one = one_act e (not_start events at e n.0 is n.2) in
    let all : one.0 ∷ acts_from events (suc at) ≡ a ∷ rest = sym (ap (λ l. l ++ acts_from events (suc at)) one.1) ∙ sym (acts_next events at e n.0 is) ∙ sym n.1 ∙ q in
    d (one.1 ∙ ap (λ x. x ∷ []) (cons_head all))

-- ---- the store

found : {A : Type 0} (m : Map A) (x : ℕ) → is_in x (keys_of m) ≡ true → (r : A) × (value_at m x ≡ Some r)
found [] x h = absurd (cc)
found (w ∷ ws) x h = elim (cases_Bool (w.0 == x)) [ inl e ↦ (w.1, rw e refl) | inr e ↦ (let h' : is_in x (keys_of ws) ≡ true = rw e at h in let r = found ws x h' in (r.0, rw e r.1)) ]

-- the indices are those of the last writes of the store
abbrev pub AreIndices : List StoredStep → List (Option ℕ) → Map (Option Value) → Type 0
AreIndices steps indices store = (x : ℕ) → x < 32 → value_from steps (get_or indices x None) x ≡ unwrap_or (value_at store x) None

step_there : (steps : List Step) (i : ℕ) (s : Step) (d : StoredStep) → i < length steps → s ≡ get_or steps i s → get_or (map step_of steps) i d ≡ step_of s
step_there [] i s d l e = absurd (omega arith)
step_there (x ∷ xs) zero s d l e = ap step_of (sym e)
step_there (x ∷ xs) (suc i) s d l e = step_there xs i s d (omega arith) e

-- a step's writes put its number at their indices
indices_on : (steps : List Step) (i : ℕ) (s : Step) (indices indices' : List (Option ℕ)) (store : Map (Option Value)) → i < length steps → s ≡ get_or steps i s
    → ((x : ℕ) → x < 32 → get_or indices' x None ≡ (if is_in x (keys_of s.writes) then Some i else get_or indices x None))
    → AreIndices (map step_of steps) indices store → AreIndices (map step_of steps) indices' (merge store (writes_of s.writes))
indices_on steps i s indices indices' store l is new h x b =
    rw (new x b, value_at-merge store (writes_of s.writes) x)
    (elim (cases_Bool (is_in x (keys_of s.writes))) [
      | inl y ↦
          (let y' : is_in x (keys_of (writes_of s.writes)) ≡ true = rw keys_writes y in
          let r = found (writes_of s.writes) x y' in
          rw (y, step_there steps i s (record { label = 0; writes = [] }) l is, r.1) refl)
      | inr n ↦
          (let n' : is_in x (keys_of (writes_of s.writes)) ≡ false = rw keys_writes n in
          rw (n, value_none (writes_of s.writes) x n') (h x b))
    ])

-- what the indices give is what is stored
kept_stored : (steps : List StoredStep) (indices : List (Option ℕ)) (store : Map (Option Value)) (xs : List ℕ) → list_all (λ x. nat_lt x 32) xs ≡ true
    → AreIndices steps indices store → kept steps indices xs ≡ stored store xs
kept_stored steps indices store [] b h = refl
kept_stored steps indices store (x ∷ xs) b h =
    let parts = and_parts (nat_lt x 32) (list_all (λ x. nat_lt x 32) xs) b in
    let less : x < 32 = (let a = parts.0 in grind (arith, nat_tests, a)) in
    rw (h x less) (ap (λ l. (x, unwrap_or (value_at store x) None) ∷ l) (kept_stored steps indices store xs parts.1 h))

-- the receipt of a step counts if it isn't the last one or is taken
pub counts_as : (taken : Bool) (steps : List Step) (i : ℕ) → i < length steps → counts taken (map step_of (drop (suc i) steps)) ≡ (taken || not (i + 1 == length steps))
counts_as taken [] i l = absurd (omega arith)
counts_as taken (x ∷ []) zero l = or_false taken
  where
    or_false : (b : Bool) → b ≡ (b || false)
    or_false true = refl
    or_false false = refl
counts_as taken (x ∷ y ∷ ys) zero l = let z : (1 == length (x ∷ y ∷ ys)) ≡ false = grind (arith, nat_tests) in rw z (or_true taken)
  where
    or_true : (b : Bool) → true ≡ (b || true)
    or_true true = refl
    or_true false = refl
counts_as taken (x ∷ xs) (suc i) l =
    let z : (suc i + 1 == length (x ∷ xs)) ≡ (i + 1 == length xs) = grind (arith, nat_tests) in
    rw z (counts_as taken xs i (omega arith))

-- ---- the loop over the steps

-- the events explain what the honest roles do on the steps before an index, and the rest is to be what they do from a store on
pub record Explaining (W : Type 0) (g : Graph) (honest : ℕ → Bool) (taken : Bool) (events : List CodeEvent) (steps : List Step) (number at : ℕ) (indices : List (Option ℕ)) : Type 0 where
  pub store : Map (Option Value)
  pub noted : AreIndices (map step_of steps) indices store
  pub rest : W ↔ (acts_from events at ≡ honest_acts g honest taken store (map step_of (drop number steps)))

-- what follows equal beginnings is equal
after_same : (b : Bool) (a : Act) (xs ys : List Act) → act_if b a ++ xs ≡ act_if b a ++ ys → xs ≡ ys
after_same true a xs ys e = ap (drop 1) e
after_same false a xs ys e = e

abbrev sending : Graph → (ℕ → Bool) → Step → List Act
sending g honest s = act_if (honest (sender (shape g) s.label)) (Sends (sender (shape g) s.label) s.label (writes_of s.writes))

regroup : (a b c : List Act) → (a ++ b) ++ c ≡ a ++ (b ++ c)
regroup [] b c = refl
regroup (x ∷ a) b c = ap (λ l. x ∷ l) (regroup a b c)

abbrev receiving : Graph → (ℕ → Bool) → Bool → Map (Option Value) → Step → List StoredStep → List Act
receiving g honest taken now s ss = act_if (honest (receiver (shape g) s.label) && counts taken ss) (Receives (receiver (shape g) s.label) s.label (stored now (reads g s.label)))

-- what honest roles do along a step and those behind it
acts_of_step : (g : Graph) (honest : ℕ → Bool) (taken : Bool) (store : Map (Option Value)) (s : Step) (ss : List StoredStep)
    → honest_acts g honest taken store (step_of s ∷ ss) ≡ sending g honest s ++ (receiving g honest taken (merge store (writes_of s.writes)) s ss ++ honest_acts g honest taken (merge store (writes_of s.writes)) ss)
acts_of_step g honest taken store s ss = regroup (sending g honest s) (receiving g honest taken (merge store (writes_of s.writes)) s ss) (honest_acts g honest taken (merge store (writes_of s.writes)) ss)

-- the receipt after it isn't there
pub refuse_receipt : (W : Type 0) (g : Graph) (honest : ℕ → Bool) (taken : Bool) (events : List CodeEvent) (steps : List Step) (i at sent : ℕ) (indices indices' : List (Option ℕ)) (s : Step) (hears : Bool) (xs : List ℕ)
    → i < length steps → s ≡ get_or steps i s → Takes events at (sending g honest s) (Some sent)
    → ((x : ℕ) → x < 32 → get_or indices' x None ≡ (if is_in x (keys_of s.writes) then Some i else get_or indices x None))
    → hears ≡ (honest (receiver (shape g) s.label) && (taken || not (i + 1 == length steps)))
    → xs ≡ reads g s.label → list_all (λ x. nat_lt x 32) xs ≡ true
    → Takes events sent (act_if hears (Receives (receiver (shape g) s.label) s.label (kept (map step_of steps) indices' xs))) None
    → Explaining W g honest taken events steps i at indices → W → ⊥
refuse_receipt W g honest taken events steps i at sent indices indices' s hears xs l is t new he xe small t' k w =
    let now = merge k.store (writes_of s.writes) in
    let at_indices = indices_on steps i s indices indices' k.store l is new k.noted in
    let same : kept (map step_of steps) indices' xs ≡ stored now (reads g s.label) = kept_stored (map step_of steps) indices' now xs small at_indices ∙ ap (stored now) xe in
    let cut = subst (λ ss. acts_from events at ≡ honest_acts g honest taken k.store (map step_of ss)) (drop_from steps i s l is) (k.rest.0 w) ∙ acts_of_step g honest taken k.store s (map step_of (drop (suc i) steps)) in
    let rest = after_same (honest (sender (shape g) s.label)) _ _ _ (sym t ∙ cut) in
    let hears' : hears ≡ (honest (receiver (shape g) s.label) && counts taken (map step_of (drop (suc i) steps))) = he ∙ ap (λ b. honest (receiver (shape g) s.label) && b) (sym (counts_as taken steps i l)) in
    t' _ (rest ∙ ap (λ b. act_if b (Receives (receiver (shape g) s.label) s.label (stored now (reads g s.label))) ++ honest_acts g honest taken now (map step_of (drop (suc i) steps))) (sym hears')
    ∙ ap (λ m. act_if hears (Receives (receiver (shape g) s.label) s.label m) ++ honest_acts g honest taken now (map step_of (drop (suc i) steps))) (sym same))

-- both are there
pub explain_step : (W : Type 0) (g : Graph) (honest : ℕ → Bool) (taken : Bool) (events : List CodeEvent) (steps : List Step) (i at sent received : ℕ) (indices indices' : List (Option ℕ)) (s : Step) (hears : Bool) (xs : List ℕ)
    → i < length steps → s ≡ get_or steps i s → Takes events at (sending g honest s) (Some sent)
    → ((x : ℕ) → x < 32 → get_or indices' x None ≡ (if is_in x (keys_of s.writes) then Some i else get_or indices x None))
    → hears ≡ (honest (receiver (shape g) s.label) && (taken || not (i + 1 == length steps)))
    → xs ≡ reads g s.label → list_all (λ x. nat_lt x 32) xs ≡ true
    → Takes events sent (act_if hears (Receives (receiver (shape g) s.label) s.label (kept (map step_of steps) indices' xs))) (Some received)
    → Explaining W g honest taken events steps i at indices → Explaining W g honest taken events steps (i + 1) received indices'
explain_step W g honest taken events steps i at sent received indices indices' s hears xs l is t new he xe small t' k =
    let now = merge k.store (writes_of s.writes) in
    let at_indices = indices_on steps i s indices indices' k.store l is new k.noted in
    let same : kept (map step_of steps) indices' xs ≡ stored now (reads g s.label) = kept_stored (map step_of steps) indices' now xs small at_indices ∙ ap (stored now) xe in
    let rest' = honest_acts g honest taken now (map step_of (drop (suc i) steps)) in
    let hears' : hears ≡ (honest (receiver (shape g) s.label) && counts taken (map step_of (drop (suc i) steps))) = he ∙ ap (λ b. honest (receiver (shape g) s.label) && b) (sym (counts_as taken steps i l)) in
    let act : List Act = act_if hears (Receives (receiver (shape g) s.label) s.label (kept (map step_of steps) indices' xs)) in
    let acts : act ++ rest' ≡ act_if (honest (receiver (shape g) s.label) && counts taken (map step_of (drop (suc i) steps))) (Receives (receiver (shape g) s.label) s.label (stored now (reads g s.label))) ++ rest' =
    ap (λ m. act_if hears (Receives (receiver (shape g) s.label) s.label m) ++ rest') same ∙ ap (λ b. act_if b (Receives (receiver (shape g) s.label) s.label (stored now (reads g s.label))) ++ rest') hears' in
    let cut = drop_from steps i s l is in
    let up : suc i ≡ i + 1 = omega arith in
    record {
      store = now;
      noted = at_indices;
      rest = subst (λ n. W ↔ (acts_from events received ≡ honest_acts g honest taken now (map step_of (drop n steps)))) up (
        λ w. (let whole = subst (λ ss. acts_from events at ≡ honest_acts g honest taken k.store (map step_of ss)) cut (k.rest.0 w) ∙ acts_of_step g honest taken k.store s (map step_of (drop (suc i) steps)) in
            let one = after_same (honest (sender (shape g) s.label)) _ _ _ (sym t ∙ whole) in
            after_same hears _ _ _ (sym t' ∙ one ∙ sym acts)),
        λ e. k.rest.1 (subst (λ ss. acts_from events at ≡ honest_acts g honest taken k.store (map step_of ss)) (sym cut)
            (t ∙ ap (λ l. sending g honest s ++ l) (t' ∙ ap (λ l. act ++ l) e ∙ acts) ∙ sym (acts_of_step g honest taken k.store s (map step_of (drop (suc i) steps))))),
      );
    }

-- at the end no act is to be left
pub explain_end : (W : Type 0) (g : Graph) (honest : ℕ → Bool) (taken : Bool) (events : List CodeEvent) (steps : List Step) (i at : ℕ) (indices : List (Option ℕ))
    → length steps ≤ i → Explaining W g honest taken events steps i at indices → W ↔ (acts_from events at ≡ [])
explain_end W g honest taken events steps i at indices l k =
    subst (λ ss. W ↔ (acts_from events at ≡ honest_acts g honest taken k.store (map step_of ss))) (drop_end steps i l) k.rest

-- if an act is next, some act is left
pub some_left : (events : List CodeEvent) (from at : ℕ) → IsNextAct events from at → acts_from events from ≡ [] → ⊥
some_left events from at n e = left events at n.0 n.2 (sym n.1 ∙ e)
  where
    left : (events : List CodeEvent) (at : ℕ) → at < length events → IfSome (slice_get events at) (λ e. is_start e ≡ false) → acts_from events at ≡ [] → ⊥
    left [] at l s e = absurd (omega arith)
    left (x ∷ xs) zero l s e =
        let one = one_act x s in
        let z : one.0 ∷ acts_from xs 0 ≡ [] = sym (ap (λ l. l ++ acts_from xs 0) one.1) ∙ e in absurd (cc)
    left (x ∷ xs) (suc at) l s e = left xs at (omega arith) s e

-- no index is noted, and nothing is stored
pub Explaining-init : (W : Type 0) (g : Graph) (honest : ℕ → Bool) (taken : Bool) (events : List CodeEvent) (steps : List Step)
    → (W ↔ (acts_from events 0 ≡ honest_acts g honest taken [] (map step_of steps))) → Explaining W g honest taken events steps 0 0 (replicate 32 None)
Explaining-init W g honest taken events steps w = record {
  store = [];
  noted = λ x b. ap (λ p. value_from (map step_of steps) p x) (get_or-replicate 32 x None None b);
  rest = w;
}

-- the variables of what is shown
keys_shown : (vs : Map Held) → keys_of (shown (values_of vs)) ≡ map (λ w. w.0) vs
keys_shown [] = refl
keys_shown (v ∷ vs) = ap (λ l. v.0 ∷ l) (keys_shown vs)

-- the variables of what the indices give
keys_kept : (steps : List StoredStep) (indices : List (Option ℕ)) (xs : List ℕ) → keys_of (kept steps indices xs) ≡ xs
keys_kept steps indices [] = refl
keys_kept steps indices (x ∷ xs) = ap (λ l. x ∷ l) (keys_kept steps indices xs)

-- values that are what the indices give have its variables
pub kept_keys : (steps : List StoredStep) (indices : List (Option ℕ)) (xs : List ℕ) (vs : Map Held) → shown (values_of vs) ≡ kept steps indices xs → map (λ w. w.0) vs ≡ xs
kept_keys steps indices xs vs e = sym (keys_shown vs) ∙ ap keys_of e ∙ keys_kept steps indices xs

-- no act is left exactly if the events explain the whole
pub explains_whole : (W : Type 0) (events : List CodeEvent) (at : ℕ) (next : Option ℕ) (b : Bool) → b ≡ is_none next → MatchOption next (acts_from events at ≡ []) (IsNextAct events at)
    → (W ↔ (acts_from events at ≡ [])) → IsTrue b ↔ W
explains_whole W events at None b e m w = (λ t. w.1 m, λ x. e)
explains_whole W events at (Some n) b e m w = (λ t. (let z : true ≡ false = sym t ∙ e in absurd (cc)), λ x. absurd (some_left events at n m (w.0 x)))
