-- The walk that is made event by event is the one that the law makes move by move.
use Rattle.std.specs.Prelude.{◌≡◌, ◌≢◌, ℕ, ◌+◌, ◌==◌, if◌then◌else◌, ◌⊎◌, Bool, true, false, List, [], ◌∷◌, ◌++◌, map, filter, filter_map, flat_map, refl, Option, Some, None, option_map}
use Rattle.std.specs.List.{cons_option}
use Rattle.std.specs.Option.{option_or}
use Rattle.std.proofs.Common.{sym, ◌∙◌, ap, inl, inr, append_assoc, append-nil}
use Rattle.std.proofs.lemmas.Bool.{cases_Bool, or_right}
use Rattle.std.proofs.lemmas.List.{map-append}
use Rattle.std.proofs.lemmas.List.Elements.{filter-append}
use Rattle.sg_model.specs.Last.{Map, last}
use Rattle.sg_model.specs.Lists.{is_in, value_at, keys_of}
use Rattle.sg_model.specs.Shape.{sender, target}
use Rattle.sg_model.specs.Values.{Value, Opening, Code}
use Rattle.sg_law.specs.Accept.{TimedLabel}
use Rattle.sg_law.specs.Last as B
use Rattle.sg_law.specs.Run as R
use Rattle.sg_law.specs.Values as V
use Rattle.sg_law.specs.Values.{State, Stored, Commit, Move, Sight, AllMay, moved, moved_all, deed_of, stored_in}
use Rattle.sg_law.specs.Values.Move.{Writes, Takes}
use Rattle.sg_law.specs.Explaining as G
use Rattle.sg_law.specs.Explaining.{unless_later, found, reveal, unknown, moves_of}
use Rattle.sg_law.proofs.Com.{option_or-none}
use Rattle.sg_law.proofs.Lists.{nil_from_map, last-append_some}
use Rattle.sg_law.proofs.Cut.{last-option_map, last-last_of}
use Rattle.sg_law.proofs.Upto.{step_labels-evidence}
use Rattle.sg_law.proofs.Take.{alike-labels, step_labels-entries}
use Rattle.sg_law.proofs.Walks.{end_of_same}
use Rattle.sg_protocol.specs.Graph.{Graph, shape, writes}
use Rattle.sg_protocol.specs.Calls.{Event, Started, Sent, Received}
use Rattle.sg_protocol.specs.Walk as W
use Rattle.sg_protocol.specs.Walk.{Act, acts_of_event}
use Rattle.sg_protocol.specs.World.{Logged}
use Rattle.sg_protocol.specs.Explaining.{hidden_steps, is_written, filled, label_sent}
use Rattle.sg_protocol.proofs.Paths.{acts_of, steps_of}

-- ---- values

-- whether a variable is named, and what is found
looked_up : {A : Type 0} (ws : Map A) (x : ℕ) → ((is_in x (keys_of ws) ≡ false) × (value_at ws x ≡ None)) ⊎ ((is_in x (keys_of ws) ≡ true) × ((r : A) × (value_at ws x ≡ Some r)))
looked_up [] x = inl (refl, refl)
looked_up (w ∷ ws) x = elim (cases_Bool (w.0 == x)) [
  | inl e ↦ inr (rw e refl, (w.1, rw e refl))
  | inr e ↦ elim (looked_up ws x) [ inl n ↦ inl (rw e n.0, rw e n.1) | inr y ↦ inr (rw e y.0, (y.1.0, rw e y.1.1)) ]
]

written : (ss : List Stored) (x : ℕ) → ((is_written x (steps_of ss) ≡ false) × (stored_in ss x ≡ None)) ⊎ ((is_written x (steps_of ss) ≡ true) × ((r : Option Value) × (stored_in ss x ≡ Some r)))
written [] x = inl (refl, refl)
written (s ∷ ss) x = elim (written ss x) [
  | inl n ↦ elim (looked_up s.values x) [
    | inl m ↦ inl (rw (m.0, n.0) refl, rw (n.1, m.1) refl)
    | inr y ↦ inr (rw y.0 refl, (y.1.0, rw (n.1, y.1.1) refl))
  ]
  | inr y ↦ inr (or_right (is_in x (keys_of s.values)) (is_written x (steps_of ss)) y.0, (y.1.0, ap (λ o. option_or o (value_at s.values x)) y.1.1))
]

-- the values of openings
abbrev pub values_in : List Opening → Map Value
values_in os = map (λ (o : Opening). (o.variable, o.value)) os

pub filled_same : (os : List Opening) (ss : List Stored) → steps_of (reveal (found os) ss) ≡ filled (values_in os) (steps_of ss)
filled_same os [] = refl
filled_same os (s ∷ ss) = ap (λ (ws : Map (Option Value)). record { label = V.along s; writes = ws } ∷ steps_of (reveal (found os) ss)) (each s.values) ∙ ap (λ l. record { label = V.along s; writes = map (λ (w : ℕ × Option Value). (w.0, if is_written w.0 (steps_of ss) then w.1 else option_or w.1 (value_at (values_in os) w.0))) s.values } ∷ l) (filled_same os ss)
  where
    one : (x : ℕ) (r : Option Value) → option_or r (unless_later (stored_in ss x) (found os x)) ≡ (if is_written x (steps_of ss) then r else option_or r (value_at (values_in os) x))
    one x r = elim (written ss x) [
      | inl n ↦ rw (n.0, n.1) refl
      | inr y ↦ rw (y.0, y.1.1) (option_or-none r)
    ]

    each : (ws : Map (Option Value)) → G.fill (λ x. unless_later (stored_in ss x) (found os x)) ws ≡ map (λ (w : ℕ × Option Value). (w.0, if is_written w.0 (steps_of ss) then w.1 else option_or w.1 (value_at (values_in os) w.0))) ws
    each [] = refl
    each (w ∷ ws) = ap (λ (r : Option Value). (w.0, r) ∷ G.fill (λ x. unless_later (stored_in ss x) (found os x)) ws) (one w.0 w.1) ∙ ap (λ l. (w.0, if is_written w.0 (steps_of ss) then w.1 else option_or w.1 (value_at (values_in os) w.0)) ∷ l) (each ws)

pub hidden_same : (g : Graph) (es : List ℕ) → steps_of (unknown (shape g) es) ≡ hidden_steps g es
hidden_same g [] = refl
hidden_same g (e ∷ es) = ap (λ l. record { label = e; writes = map (λ x. (x, None)) (writes g e) } ∷ l) (hidden_same g es)

-- ---- steps of a run that stand beside walks

-- the log is one that stands beside walks, and a last entry beside its walk
pub record EndsWith (log : List (Logged × List ℕ)) (entries : List Logged) (l : Logged) : Type 0 where
  pub before : List (Logged × List ℕ)
  pub walk : List ℕ
  pub is : log ≡ before ++ (l, walk) ∷ []
  pub are : map (λ (x : Logged × List ℕ). x.0) before ≡ entries

pub split_marked : (log : List (Logged × List ℕ)) (entries : List Logged) (l : Logged) → map (λ (x : Logged × List ℕ). x.0) log ≡ entries ++ l ∷ [] → EndsWith log entries l
split_marked [] [] l e = absurd (cc)
split_marked [] (b ∷ bs) l e = absurd (cc)
split_marked (x ∷ xs) [] l e =
    let q : x.0 ≡ l = cc in
    let r : map (λ (x : Logged × List ℕ). x.0) xs ≡ [] = cc in
    record { before = []; walk = x.1; is = ap (λ z. x ∷ z) (nil_from_map (λ (x : Logged × List ℕ). x.0) xs r) ∙ ap (λ (z : Logged). (z, x.1) ∷ []) q; are = refl }
split_marked (x ∷ xs) (b ∷ bs) l e =
    let q : x.0 ≡ b = cc in
    let r : map (λ (x : Logged × List ℕ). x.0) xs ≡ bs ++ l ∷ [] = cc in
    more q (split_marked xs bs l r)
  where
    more : x.0 ≡ b → EndsWith xs bs l → EndsWith (x ∷ xs) (b ∷ bs) l
    more q s = record { before = x ∷ s.before; walk = s.walk; is = ap (λ z. x ∷ z) s.is; are = ap (λ z. z ∷ map (λ (x : Logged × List ℕ). x.0) s.before) q ∙ ap (λ z. b ∷ z) s.are }

-- ---- moves that stand beside steps

module _ (g : Graph) (honest : ℕ → Bool) (commit : Commit) where
  pub walk_after_moves-last : (st : State) (S : List Stored) (ms : List (Move × List ℕ)) (m : Move × List ℕ) → G.walk_after_moves (shape g) honest st.machine S (ms ++ m ∷ []) ≡ G.walk_after_move (shape g) honest (moved_all commit st (moves_of ms)).machine (G.walk_after_moves (shape g) honest st.machine S ms) m.0 m.1
  walk_after_moves-last st S [] m = refl
  walk_after_moves-last st S ((Writes h e os, since) ∷ ms) m = walk_after_moves-last (moved commit st (Writes h e os)) (G.walk_after_move (shape g) honest st.machine S (Writes h e os) since) ms m
  walk_after_moves-last st S ((Takes h n items os, since) ∷ ms) m = walk_after_moves-last (moved commit st (Takes h n items os)) (G.walk_after_move (shape g) honest st.machine S (Takes h n items os) since) ms m

  pub shown-last : (st : State) (ms : List (Move × List ℕ)) (m : Move × List ℕ) → G.AllShownBy (shape g) st.machine ms → G.ShownBy (shape g) (moved_all commit st (moves_of ms)).machine m.0 m.1 → G.AllShownBy (shape g) st.machine (ms ++ m ∷ [])
  shown-last st [] m a b = (b, tt)
  shown-last st ((Writes h e os, since) ∷ ms) m a b = (a.0, shown-last (moved commit st (Writes h e os)) ms m a.1 b)
  shown-last st ((Takes h n items os, since) ∷ ms) m a b = (a.0, shown-last (moved commit st (Takes h n items os)) ms m a.1 b)

  -- a taking receives along the last label that is shown
  takes_act : (items : List (B.Entry TimedLabel Code)) → items ≢ [] → (ws : Map (Option Value)) → (a : Act) × (acts_of g (V.ReadAlong (option_map (λ (i : B.Entry TimedLabel Code). i.step.label) (last items)) ws) ≡ a ∷ []) × ((r label : ℕ) (us : Map (Option Value)) → a ≡ W.Sends r label us → ⊥)
  takes_act [] some ws = absurd (some refl)
  takes_act (i ∷ is) some ws = (_, refl, λ r label us e. absurd (cc))

  pub no_moves : (st : State) (ms : List Move) → AllMay (shape g) honest commit st ms → [] ≡ flat_map (acts_of g) (map deed_of ms) → ms ≡ []
  no_moves st [] al e = refl
  no_moves st (Writes h e os ∷ ms) al q = absurd (cc)
  no_moves st (Takes h n items os ∷ ms) al q =
      let t = takes_act items al.0.some (V.values_of os) in
      let q' : [] ≡ t.0 ∷ flat_map (acts_of g) (map deed_of ms) = q ∙ ap (λ l. l ++ flat_map (acts_of g) (map deed_of ms)) t.1 in
      absurd (cc)

  pub one_write : (st : State) (ms : List Move) (r label : ℕ) (ws : Map (Option Value)) → AllMay (shape g) honest commit st ms → W.Sends r label ws ∷ [] ≡ flat_map (acts_of g) (map deed_of ms) → (h : ℕ) × (os : List Opening) × (ms ≡ Writes h label os ∷ []) × (ws ≡ V.values_of os)
  one_write st [] r label ws al q = absurd (cc)
  one_write st (Writes h e os ∷ ms) r label ws al q =
      let first : W.Sends r label ws ≡ W.Sends (sender (shape g) e) e (V.values_of os) = cc in
      let rest : [] ≡ flat_map (acts_of g) (map deed_of ms) = cc in
      let l : label ≡ e = cc in
      let v : ws ≡ V.values_of os = cc in
      (h, os, ap (λ k. Writes h k os ∷ ms) (sym l) ∙ ap (λ z. Writes h label os ∷ z) (no_moves (moved commit st (Writes h e os)) ms al.1 rest), v)
  one_write st (Takes h n items os ∷ ms) r label ws al q =
      let t = takes_act items al.0.some (V.values_of os) in
      let q' : W.Sends r label ws ∷ [] ≡ t.0 ∷ flat_map (acts_of g) (map deed_of ms) = q ∙ ap (λ l. l ++ flat_map (acts_of g) (map deed_of ms)) t.1 in
      let f : t.0 ≡ W.Sends r label ws = cc in
      absurd (t.2 r label ws f)

  -- ---- the label that a role sent last

  abbrev pub label_of_act : ℕ → Act → Option ℕ
  label_of_act r (W.Sends r' label ws) = if r' == r then Some label else None
  label_of_act r (W.Receives r' label ws) = None

  pub labels_sent : (r : ℕ) (es : List Event) → filter_map (label_sent r) es ≡ filter_map (label_of_act r) (flat_map acts_of_event es)
  labels_sent r [] = refl
  labels_sent r (Started sid r' ∷ es) = labels_sent r es
  labels_sent r (Sent sid r' label time values ∷ es) = ap (cons_option (if r' == r then Some label else None)) (labels_sent r es)
  labels_sent r (Received sid r' label time values joins ∷ es) = labels_sent r es

  abbrev pub by_role : ℕ → TimedLabel → Bool
  by_role r t = sender (shape g) t.label == r

  pub labels_of : (r : ℕ) (st : State) (ms : List Move) → map (λ (t : TimedLabel). t.label) (filter (by_role r) (moved_all commit st ms).machine.sent) ≡ map (λ (t : TimedLabel). t.label) (filter (by_role r) st.machine.sent) ++ filter_map (label_of_act r) (flat_map (acts_of g) (map deed_of ms))
  labels_of r st [] = sym (append-nil _)
  labels_of r st (Writes h e os ∷ ms) =
      let t : TimedLabel = record { label = e; time = R.turn_time (st.machine.at h).turn + 1 } in
      let rest : List ℕ = filter_map (label_of_act r) (flat_map (acts_of g) (map deed_of ms)) in
      labels_of r (moved commit st (Writes h e os)) ms
      ∙ ap (λ l. map (λ (t : TimedLabel). t.label) l ++ rest) (filter-append (by_role r) st.machine.sent (t ∷ []))
      ∙ ap (λ l. l ++ rest) (map-append (λ (t : TimedLabel). t.label) (filter (by_role r) st.machine.sent) (filter (by_role r) (t ∷ [])))
      ∙ append_assoc (map (λ (t : TimedLabel). t.label) (filter (by_role r) st.machine.sent)) (map (λ (t : TimedLabel). t.label) (filter (by_role r) (t ∷ []))) rest
      ∙ ap (λ l. map (λ (t : TimedLabel). t.label) (filter (by_role r) st.machine.sent) ++ l) (one t rest)
    where
      one : (t : TimedLabel) (rest : List ℕ) → map (λ (t : TimedLabel). t.label) (filter (by_role r) (t ∷ [])) ++ rest ≡ cons_option (if sender (shape g) t.label == r then Some t.label else None) rest
      one t rest = elim (cases_Bool (sender (shape g) t.label == r)) [ inl d ↦ rw d refl | inr d ↦ rw d refl ]
  labels_of r st (Takes h n items os ∷ ms) = labels_of r (moved commit st (Takes h n items os)) ms ∙ ap (λ l. map (λ (t : TimedLabel). t.label) (filter (by_role r) st.machine.sent) ++ l) (sym (none (option_map (λ (i : B.Entry TimedLabel Code). i.step.label) (last items))))
    where
      none : (o : Option ℕ) → filter_map (label_of_act r) (acts_of g (V.ReadAlong o (V.values_of os)) ++ flat_map (acts_of g) (map deed_of ms)) ≡ filter_map (label_of_act r) (flat_map (acts_of g) (map deed_of ms))
      none None = refl
      none (Some e) = refl

  -- where a sight ends
  pub sight_ends : (h : ℕ) (own : Option TimedLabel) (n : ℕ) (items : List (B.Entry TimedLabel Code)) (i : B.Entry TimedLabel Code) → (v : Sight (shape g) h own n items) → last items ≡ Some i → n ≡ target (shape g) i.step.label
  sight_ends h own n items i v e = sym v.ends ∙ end_of_same (shape g) 0 (v.before ++ v.since) (i.step.label ∷ []) (last-append_some v.before v.since i.step.label at)
    where
      at : last v.since ≡ Some i.step.label
      at = sym (last-last_of (sender (shape g)) v.since)
          ∙ ap last (sym (alike-labels items (B.evidence (λ (t : TimedLabel). sender (shape g) t.label) (map (V.entry (shape g)) v.since)) v.alike ∙ step_labels-evidence (shape g) (map (V.entry (shape g)) v.since) ∙ ap (B.last_of (sender (shape g))) (step_labels-entries (shape g) v.since)))
          ∙ last-option_map (λ (i : B.Entry TimedLabel Code). i.step.label) items ∙ ap (option_map (λ (i : B.Entry TimedLabel Code). i.step.label)) e
