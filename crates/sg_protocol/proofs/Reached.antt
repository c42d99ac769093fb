-- A node's sessions behind which sound ones stand, of which the roles keep the same: so it is after each call.
use Rattle.std.specs.Prelude.{◌≡◌, ◌⊎◌, ℕ, ◌==◌, ◌&&◌, true, false, List, [], ◌∷◌, bytes_eq, refl, Option, Some, None, IfSome, IsSomeAnd}
use Rattle.std.specs.List.{AllByRecursion}
use Rattle.std.proofs.Common.{sym, ◌∙◌, ap, subst, inl, inr}
use Rattle.std.proofs.lemmas.Bool.{cases_Bool, eqb-true, and_parts}
use Rattle.sg_model.specs.Last.{Map, last}
use Rattle.sg_model.specs.Lists.{first_some}
use Rattle.sg_model.specs.Shape.{role_at}
use Rattle.sg_model.specs.Values.{Value, Opening}
use Rattle.sg_model.proofs.Small.{clash, some_weaker}
use Rattle.sg_model.proofs.LastOf.{eqb_same}
use Rattle.sg_model.proofs.Finding.{find_passes}
use Rattle.sg_protocol.specs.Graph.{shape}
use Rattle.sg_protocol.specs.Frame.{Item, Frame}
use Rattle.sg_protocol.specs.Spelling.{HasSpelling}
use Rattle.sg_protocol.specs.Texts.{Hash, IsHash, session_id}
use Rattle.sg_protocol.specs.Keyring.{Keyring, Program}
use Rattle.sg_protocol.specs.Session.{Session, Took, Gave, new_session, extended, at_turn}
use Rattle.sg_protocol.specs.Sending.{own_item, frame_sent}
use Rattle.sg_protocol.specs.Calls.{Call, Start, Act, Abandon, Deliver}
use Rattle.sg_protocol.specs.Node.{Node, program_for, is_for}
use Rattle.sg_protocol.specs.Verdict.{rows_of_session}
use Rattle.sg_protocol.specs.Acting.{openings_for, rows_of_act, leaves, answer}
use Rattle.sg_protocol.specs.NodeAfter.{node_after}
use Rattle.sg_protocol.specs.IsSchedule.{IsProgram}
use Rattle.sg_protocol.specs.Ranges.{AreValues, IsCallInRange}
use Rattle.sg_protocol.specs.Representation.{Held, held, RepresentsWaiting, RepresentsAtTurn, held_after}
use Rattle.sg_protocol.specs.Reachable.{IsReachableWaiting, IsReachableAtTurn}
use Rattle.sg_protocol.specs.Live.{IsSound, IsLive}
use Rattle.sg_protocol.specs.NodeStates.{RepresentsLive, RepresentEach, IsReachableLive}
use Rattle.sg_protocol.proofs.Acts as C
use Rattle.sg_protocol.proofs.Reachable.{states_are_reachable}
use Rattle.sg_protocol.proofs.Live.{start_sound, join_sound}
use Rattle.sg_protocol.proofs.Nodes.{ActSent, NextTaken, start_all, abandon_all, act_all, deliver_all}
use Rattle.sg_protocol.proofs.ReadBack.{read-SpellsFrame}
use Rattle.sg_protocol.proofs.Representation.{states_represent, after}
use Rattle.sg_protocol.proofs.NoRows.{found_for}

module _ (sha : Hash) (hash : IsHash sha) where
  -- what is held of the session represents it, and a sound session stands behind it
  abbrev pub Reached : Program → Session → Type 0
  Reached p s = (RepresentsAtTurn p.graph (held p.graph s) s × IsReachableAtTurn sha p (held p.graph s)) ⊎ (RepresentsWaiting p.graph (held p.graph s) s × IsReachableWaiting sha p (held p.graph s))

  -- so it is under the program for its graph and role
  abbrev pub ReachedIn : List Program → Session → Type 0
  ReachedIn ps s = IsSomeAnd (program_for ps (s.cast).graph s.role) (λ p. Reached p s)

  of_sound : (p : Program) (s : Session) → IsSound sha p s → Reached p s
  of_sound p s so = elim (cases_Bool (at_turn p.graph s)) [
    | inl t ↦ (let st : RepresentsAtTurn p.graph (held p.graph s) s = record { holds = refl; ends = so.ends_at_turn t; turn = t } in
        inl (st, record { session = s; represents = st; sound = so }))
    | inr w ↦ (let st : RepresentsWaiting p.graph (held p.graph s) s = record { before = record { holds = refl; ends = so.ends_waiting w }; waits = w } in
        inr (st, record { session = s; represents = st; sound = so }))
  ]

  -- ---- a step, and a frame

  gives : (keys : Keyring) (p : Program) (s : Session) (label : ℕ) (values : Map Value) (confs : List (List ℕ)) → IsProgram sha p → Reached p s → first_some (rows_of_act p s label values) ≡ None → AreValues values confs →
      (last (frame_sent sha keys p s label (openings_for values confs)).items ≡ Some (own_item sha keys p s label (openings_for values confs)))
      × Reached p (extended s (Gave (own_item sha keys p s label (openings_for values confs)) (openings_for values confs)))
  gives keys p s label values confs ip (inr w) none good =
      let rs : C.ActRows p.graph s label values = C.act_rows p s label values none in
      absurd (clash (at_turn p.graph s) rs.turn (w.0).waits)
  gives keys p s label values confs ip (inl t) none good =
      let written : List Opening = openings_for values confs in
      let rs : C.ActRows p.graph s label values = C.act_rows p s label values none in
      let leave : leaves p.graph s label ≡ true = rw (rs.edge, rs.leaves) (eqb_same _) in
      let i : Item = own_item sha keys p s label written in
      let b = (states_are_reachable sha hash).gives keys p (held p.graph s) s label values confs ip t.1 t.0 none good in
      let st : RepresentsWaiting p.graph (held_after p.graph (held p.graph s) (Gave i written)) (extended s (Gave i written)) = (states_represent sha).gives keys p (held p.graph s) s label written ip.accepted t.0 leave in
      let same : held_after p.graph (held p.graph s) (Gave i written) ≡ held p.graph (extended s (Gave i written)) = after p.graph (held p.graph s) s (Gave i written) refl in
      (b.0, inr (subst (λ z. RepresentsWaiting p.graph z (extended s (Gave i written))) same st, subst (IsReachableWaiting sha p) same b.2))

  takes : (keys : Keyring) (p : Program) (s : Session) (f : Frame) → IsProgram sha p → p.role ≡ s.role → Reached p s → at_turn p.graph s ≡ false → HasSpelling f → f.version ≡ (s.cast).version → first_some (rows_of_session sha keys p s f) ≡ None → Reached p (extended s (Took f))
  takes keys p s f ip r (inl t) wait sp v none = absurd (clash (at_turn p.graph s) (t.0).turn wait)
  takes keys p s f ip r (inr w) wait sp v none =
      let b = (states_are_reachable sha hash).takes keys p (held p.graph s) s f ip ((states_are_reachable sha hash).before p (held p.graph s) w.1) (w.0).before sp v none in
      let st : RepresentsAtTurn p.graph (held_after p.graph (held p.graph s) (Took f)) (extended s (Took f)) = (states_represent sha).takes keys p (held p.graph s) s f ip r (w.0).before none in
      let same : held_after p.graph (held p.graph s) (Took f) ≡ held p.graph (extended s (Took f)) = after p.graph (held p.graph s) s (Took f) refl in
      inl (subst (λ z. RepresentsAtTurn p.graph z (extended s (Took f))) same st, subst (IsReachableAtTurn sha p) same b)

  -- ---- a node

  module _ (n : Node) (programs : AllByRecursion (IsProgram sha) n.programs) where
    at : (s : Session) (p : Program) → program_for n.programs (s.cast).graph s.role ≡ Some p → ReachedIn n.programs s → Reached p s
    at s p q h = subst (λ o. IsSomeAnd o (λ p. Reached p s)) q h

    under : (s : Session) (p : Program) → program_for n.programs (s.cast).graph s.role ≡ Some p → Reached p s → ReachedIn n.programs s
    under s p q h = subst (λ o. IsSomeAnd o (λ p. Reached p s)) (sym q) h

    live_reached : (s : Session) → IsLive sha n.programs s → ReachedIn n.programs s
    live_reached s = some_weaker (λ p. IsSound sha p s) (λ p. Reached p s) (program_for n.programs (s.cast).graph s.role) (λ p. of_sound p s)

    act_reached : (sid0 : List ℕ) (label : ℕ) (values : Map Value) (confs : List (List ℕ)) → AreValues values confs → (f : Frame) (a : ActSent sha n sid0 label values confs f) → ReachedIn n.programs a.x
        → IfSome (last f.items) (λ i. ReachedIn n.programs (extended a.x (Gave i (openings_for values confs))))
    act_reached sid0 label values confs good f a h =
        let written : List Opening = openings_for values confs in
        let r = gives n.keys a.p a.x label values confs (found_for sha n.programs programs (a.x).cast.graph (a.x).role a.p a.found_p).is_program (at a.x a.p a.found_p h) a.rows good in
        let own_last : last f.items ≡ Some (own_item sha n.keys a.p a.x label written) = ap (λ (z : Frame). last z.items) (sym a.its) ∙ r.0 in
        subst (λ o. IfSome o (λ i. ReachedIn n.programs (extended a.x (Gave i written)))) (sym own_last) (under (extended a.x (Gave (own_item sha n.keys a.p a.x label written) written)) a.p a.found_p r.1)

    next_reached : (f : Frame) (s : Session) → HasSpelling f → NextTaken sha n f s → ReachedIn n.programs s → ReachedIn n.programs (extended s (Took f))
    next_reached f s sp t h =
        let v : s.cast.version ≡ f.version = eqb-true s.cast.version f.version (and_parts (bytes_eq s.sid f.sid && (s.role == f.receiver)) (s.cast.version == f.version) (find_passes (is_for f) n.live s t.found)).1 in
        let q = found_for sha n.programs programs s.cast.graph s.role t.p t.found_p in
        under (extended s (Took f)) t.p t.found_p (takes n.keys t.p s f q.is_program (sym q.role_is) (at s t.p t.found_p h) t.waits sp (sym v) t.rows)

    pub node_reached : AllByRecursion (ReachedIn n.programs) n.live → (c : Call) → IsCallInRange c → AllByRecursion (ReachedIn n.programs) (node_after n c (answer sha n c)).live
    node_reached live (Start c) h = start_all sha n (ReachedIn n.programs) live c (λ p b. live_reached (new_session (session_id sha c) c p.role) (start_sound sha hash n programs c h p b))
    node_reached live (Act sid0 label values confs) h = act_all sha n (ReachedIn n.programs) live sid0 label values confs (act_reached sid0 label values confs h)
    node_reached live (Abandon sid0) h = abandon_all sha n (ReachedIn n.programs) live sid0
    node_reached live (Deliver bs) h = deliver_all sha n (ReachedIn n.programs) live bs (λ f s rd. next_reached f s (read-SpellsFrame bs f h rd).is_frame)
        (λ f c rd e t. live_reached (extended (new_session f.sid c f.receiver) (Took f)) (join_sound sha hash n programs f c (read-SpellsFrame bs f h rd).is_frame e t))

  -- ---- from what is held

  module _ (ps : List Program) where
    module _ (h : Held) (s : Session) where
      holds : (p : Program) → RepresentsAtTurn p.graph h s ⊎ RepresentsWaiting p.graph h s → h ≡ held p.graph s
      holds p (inl t) = t.holds
      holds p (inr w) = (w.before).holds

      same_turn : (p : Program) (t : Session) → h ≡ held p.graph s → h ≡ held p.graph t → at_turn p.graph s ≡ at_turn p.graph t
      same_turn p t a b = ap (λ (z : Held). role_at (shape p.graph) (z.kept).place == z.role) (sym a ∙ b)

      both : (p : Program) → RepresentsAtTurn p.graph h s ⊎ RepresentsWaiting p.graph h s → IsReachableAtTurn sha p h ⊎ IsReachableWaiting sha p h → Reached p s
      both p (inl t) (inl b) = inl (subst (λ z. RepresentsAtTurn p.graph z s) t.holds t, subst (IsReachableAtTurn sha p) t.holds b)
      both p (inl t) (inr b) = absurd (clash (at_turn p.graph s) t.turn (same_turn p b.session t.holds ((b.represents).before).holds ∙ (b.represents).waits))
      both p (inr w) (inl b) = absurd (clash (at_turn p.graph s) (same_turn p b.session (w.before).holds (b.represents).holds ∙ (b.represents).turn) w.waits)
      both p (inr w) (inr b) = inr (subst (λ z. RepresentsWaiting p.graph z s) (w.before).holds w, subst (IsReachableWaiting sha p) (w.before).holds b)

      one_reached : RepresentsLive ps h s → IsReachableLive sha ps h → ReachedIn ps s
      one_reached st b = go (program_for ps (s.cast).graph s.role) refl st
        where
          go : (o : Option Program) → program_for ps (s.cast).graph s.role ≡ o → IsSomeAnd o (λ p. RepresentsAtTurn p.graph h s ⊎ RepresentsWaiting p.graph h s) → IsSomeAnd o (λ p. Reached p s)
          go None e k = absurd k
          go (Some p) e k = both p k (subst (λ o. IsSomeAnd o (λ p. IsReachableAtTurn sha p h ⊎ IsReachableWaiting sha p h)) (ap (λ (z : Held). program_for ps (z.cast).graph z.role) (holds p k) ∙ e) b)

    pub each_reached : (hs : List Held) (ss : List Session) → RepresentEach ps hs ss → AllByRecursion (IsReachableLive sha ps) hs → AllByRecursion (ReachedIn ps) ss
    each_reached [] [] e b = tt
    each_reached [] (s ∷ ss) e b = absurd e
    each_reached (h ∷ hs) [] e b = absurd e
    each_reached (h ∷ hs) (s ∷ ss) e b = (one_reached h s e.0 b.0, each_reached hs ss e.1 b.1)
