-- The first session with a sid that is at its turn.
use Rattle.std.specs.Prelude.{◌≡◌, ℕ, suc, ◌==◌, ◌⊎◌, true, false, if◌then◌else◌, List, [], ◌∷◌, map, filter, bytes_eq, refl, Option, Some, None, option_map, option_and_then, unwrap_or, IsSomeAnd}
use Rattle.std.specs.List.{AllByRecursion}
use Rattle.std.proofs.Common.{sym, ◌∙◌, ap, subst, inl, inr}
use Rattle.std.proofs.lemmas.Bool.{cases_Bool}
use Rattle.sg_model.proofs.Small.{and_left}
use Rattle.sg_model.specs.Lists.{first_some}
use Rattle.sg_model.specs.Shape.{role_at}
use Rattle.sg_protocol.specs.Graph.{shape}
use Rattle.sg_protocol.specs.Keyring.{Program}
use Rattle.sg_protocol.specs.Session.{Session, at_turn, place}
use Rattle.sg_protocol.specs.Node.{Node, program_for}
use Rattle.sg_protocol.specs.Isolation.{sessions_with}
use Rattle.sg_protocol.specs.Turn.{turn_in, turn_of}
use Rattle.sg_protocol.specs.Texts.{real}
use Rattle.sg_protocol.specs.Representation.{Held, held, RepresentsAtTurn, RepresentsWaiting}
use Rattle.sg_protocol.specs.Reachable.{IsReachableAtTurn, IsReachableWaiting}
use Rattle.sg_protocol.specs.NodeStates.{RepresentsLive, RepresentEach, RepresentsNode, has_sid}
use Rattle.sg_node.specs.declared.node.Node.TheInside.{Inside}
use Rattle.sg_node.specs.declared.sessions.Live.{Live}
use Rattle.sg_node.specs.declared.sessions.Live.TheVariants.{AtTurn, Waiting}
use Rattle.sg_node.specs.Slots.{Slot, state_in, held_in, is_live, is_of, first_index}
use Rattle.sg_node.specs.Invariant.{IsLiveAt, IsSlot, HoldsNode, node_state}
use Rattle.sg_node.proofs.Indices.{live_at, some_none}

-- if a session of which this is held is at its turn under a program
abbrev turn_under : Held → Program → Option ℕ
turn_under h p = if role_at (shape p.graph) h.kept.place == h.role then Some h.kept.place else None

-- if a session of which this is held is at its turn
abbrev turn_held : List Program → Held → Option ℕ
turn_held ps h = option_and_then (turn_under h) (program_for ps h.cast.graph h.role)

-- it is where the session is
same_turn : (ps : List Program) (h : Held) (s : Session) → RepresentsLive ps h s → (turn_in ps s ≡ turn_held ps h) × (s.sid ≡ h.sid)
same_turn ps h s l = go (program_for ps s.cast.graph s.role) refl l
  where
    holds : (p : Program) → RepresentsAtTurn p.graph h s ⊎ RepresentsWaiting p.graph h s → h ≡ held p.graph s
    holds p (inl t) = t.holds
    holds p (inr w) = w.before.holds

    go : (o : Option Program) → program_for ps s.cast.graph s.role ≡ o → IsSomeAnd o (λ p. RepresentsAtTurn p.graph h s ⊎ RepresentsWaiting p.graph h s) → (turn_in ps s ≡ turn_held ps h) × (s.sid ≡ h.sid)
    go None q l = absurd l
    go (Some p) q l =
        let e : h ≡ held p.graph s = holds p l in
        let q' : program_for ps h.cast.graph h.role ≡ Some p = ap (λ (z : Held). program_for ps z.cast.graph z.role) e ∙ q in
        (ap (option_and_then (λ p. if at_turn p.graph s then Some (place p.graph s) else None)) q ∙ ap (λ (z : Held). turn_under z p) (sym e) ∙ sym (ap (option_and_then (turn_under h)) q'), sym (ap (λ (z : Held). z.sid) e))

same_turns : (ps : List Program) (sid : List ℕ) (hs : List Held) (ss : List Session) → RepresentEach ps hs ss → first_some (map (turn_in ps) (sessions_with ss sid)) ≡ first_some (map (turn_held ps) (filter (has_sid sid) hs))
same_turns ps sid [] [] a = refl
same_turns ps sid [] (s ∷ ss) a = absurd a
same_turns ps sid (h ∷ hs) [] a = absurd a
same_turns ps sid (h ∷ hs) (s ∷ ss) a =
    let t = same_turn ps h s a.0 in
    let rest = same_turns ps sid hs ss a.1 in
    elim (cases_Bool (bytes_eq h.sid sid)) [
      | inl e ↦ rw (ap (λ z. bytes_eq z sid) t.1 ∙ e, e, t.0) (one (turn_held ps h) _ _ rest)
      | inr e ↦ rw (ap (λ z. bytes_eq z sid) t.1 ∙ e, e) rest
    ]
  where
    one : (o : Option ℕ) (xs ys : List (Option ℕ)) → first_some xs ≡ first_some ys → first_some (o ∷ xs) ≡ first_some (o ∷ ys)
    one None xs ys e = e
    one (Some n) xs ys e = refl

-- ---- the table

-- the place of the graph that is held there
abbrev place_in : Live → Option ℕ
place_in l = Some (state_in l).held.kept.place

turn_live : (ps : List Program) (id : List ℕ) (r : ℕ) (l : Live) → IsLiveAt ps id r l → turn_held ps (state_in l).held ≡ (if is_live true (Some l) then place_in l else None)
turn_live ps id r (AtTurn s) h = ap (option_and_then (turn_under s.held)) h.program ∙ ap (λ b. if b then Some s.held.kept.place else None) (at (h.reachable))
  where
    at : IsReachableAtTurn real s.program s.held → (role_at (shape s.program.graph) s.held.kept.place == s.held.role) ≡ true
    at b = ap (λ (z : Held). role_at (shape s.program.graph) z.kept.place == z.role) b.represents.holds ∙ b.represents.turn
turn_live ps id r (Waiting s) h = ap (option_and_then (turn_under s.held)) h.program ∙ ap (λ b. if b then Some s.held.kept.place else None) (at (h.reachable))
  where
    at : IsReachableWaiting real s.program s.held → (role_at (shape s.program.graph) s.held.kept.place == s.held.role) ≡ false
    at b = ap (λ (z : Held). role_at (shape s.program.graph) z.kept.place == z.role) b.represents.before.holds ∙ b.represents.waits

-- the slot of the first that is at its turn
abbrev pub turn_at : List Slot → Option ℕ → Option ℕ
turn_at ss i = option_and_then (λ i. option_and_then place_in (live_at ss i)) i

turns : (ps : List Program) (js : List (List ℕ × ℕ)) (sid : List ℕ) (ss : List Slot) → AllByRecursion (IsSlot ps js) ss → first_some (map (turn_held ps) (filter (has_sid sid) (held_in ss))) ≡ turn_at ss (first_index (is_of true sid) ss)
turns ps js sid [] h = refl
turns ps js sid ((k, None) ∷ ss) h = turns ps js sid ss h.1 ∙ shifted (k, None) ss (first_index (is_of true sid) ss)
  where
    shifted : (s : Slot) (ss : List Slot) (o : Option ℕ) → turn_at ss o ≡ turn_at (s ∷ ss) (option_map suc o)
    shifted s ss None = refl
    shifted s ss (Some i) = refl
turns ps js sid ((k, Some l) ∷ ss) h =
    let its : IsLiveAt ps k.0 k.1 l = h.0.1 in
    let q : bytes_eq k.0 sid ≡ bytes_eq (state_in l).held.sid sid = ap (λ z. bytes_eq z sid) (sym its.sid) in
    let t = turn_live ps k.0 k.1 l its in
    let rest = turns ps js sid ss h.1 ∙ shifted (k, Some l) ss (first_index (is_of true sid) ss) in
    elim (cases_Bool (bytes_eq (state_in l).held.sid sid)) [
      | inl e ↦ elim (cases_Bool (is_live true (Some l))) [
        | inl f ↦ rw (f, q ∙ e, e, t) (rw f refl)
        | inr f ↦ rw (f, e, t) (rw f rest)
      ]
      | inr e ↦ rw (q ∙ e, e) (elim (cases_Bool (is_live true (Some l))) [ inl f ↦ rw f rest | inr f ↦ rw f rest ])
    ]
  where
    shifted : (s : Slot) (ss : List Slot) (o : Option ℕ) → turn_at ss o ≡ turn_at (s ∷ ss) (option_map suc o)
    shifted s ss None = refl
    shifted s ss (Some i) = refl

-- the turn of a node that the state represents
pub turn_is : (n : Inside) → HoldsNode n → (m : Node) → RepresentsNode (node_state n) m → (sid : List ℕ) → turn_of m sid ≡ turn_at n.sessions.slots (first_index (is_of true sid) n.sessions.slots)
turn_is n h m st sid = same_turns m.programs sid (held_in n.sessions.slots) m.live st.live ∙ subst (λ ps. first_some (map (turn_held ps) (filter (has_sid sid) (held_in n.sessions.slots))) ≡ turn_at n.sessions.slots (first_index (is_of true sid) n.sessions.slots)) st.programs
    (turns n.programs.now n.joins.pairs sid n.sessions.slots h.slots)

-- what is live at the first slot that is found is at its turn
pub at_its_turn : (sid : List ℕ) (ss : List Slot) (i : ℕ) → first_index (is_of true sid) ss ≡ Some i → is_live true (live_at ss i) ≡ true
at_its_turn sid [] i e = some_none i (sym e)
at_its_turn sid (s ∷ ss) i e = elim (cases_Bool (is_of true sid s)) [
  | inl q ↦
      let z : 0 ≡ i = ap (λ o. unwrap_or o 0) (sym (ap (λ b. if b then Some 0 else option_map suc (first_index (is_of true sid) ss)) q) ∙ e) in
      subst (λ k. is_live true (live_at (s ∷ ss) k) ≡ true) z (and_left (is_live true s.1) (bytes_eq (s.0).0 sid) q)
  | inr q ↦ later (first_index (is_of true sid) ss) (λ j. at_its_turn sid ss j) (sym (ap (λ b. if b then Some 0 else option_map suc (first_index (is_of true sid) ss)) q) ∙ e)
]
  where
    later : (o : Option ℕ) → ((j : ℕ) → o ≡ Some j → is_live true (live_at ss j) ≡ true) → option_map suc o ≡ Some i → is_live true (live_at (s ∷ ss) i) ≡ true
    later None more e = some_none i (sym e)
    later (Some j) more e = subst (λ k. is_live true (live_at (s ∷ ss) k) ≡ true) (ap (λ o. unwrap_or o 0) e) (more j refl)
