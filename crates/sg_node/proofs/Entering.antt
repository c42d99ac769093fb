-- A frame that joins a session.
use Rattle.std.specs.Prelude.{◌≡◌, ◌≢◌, ℕ, ◌==◌, ◌&&◌, nat_lt, nat_le, Bool, true, false, if◌then◌else◌, List, [], ◌∷◌, ◌++◌, length, bytes_eq, refl, Option, Some, None, option_map, Ok, Err, map, slice_get, Contains, IfSome, ◌⊎◌, ◌<◌, Result, IsErr, IfOk, IfErr, MatchResult}
use Rattle.std.specs.Option.{option_map_or}
use Rattle.std.specs.List.{AllByRecursion}
use Rattle.std.proofs.Common.{sym, ◌∙◌, ap, subst, inl, inr, append_assoc}
use Rattle.std.proofs.lemmas.Bool.{eqb-true, cases_Bool}
use Rattle.sg_model.proofs.Small.{and_left, and_right, same_bytes, bytes_same}
use Rattle.sg_model.proofs.Finding.{find_passes}
use Rattle.sg_model.specs.Bytes.{AreBytes}
use Rattle.sg_model.specs.Limits.{most_roles}
use Rattle.sg_model.specs.Lists.{first_some, all_differ}
use Rattle.sg_model.specs.Shape.{role_at}
use Rattle.sg_protocol.specs.Calls.{Refusal, Happened, NotDelivered, UnknownGraph, BadCast, UnknownPeer, BadSession, Joined, CacheFull, SessionsFull}
use Rattle.sg_protocol.specs.Frame.{Cast, Frame, IsCastOf}
use Rattle.sg_protocol.specs.Ranges.{IsCast}
use Rattle.sg_protocol.specs.Graph.{Graph, shape}
use Rattle.sg_protocol.specs.IsSchedule.{IsProgram}
use Rattle.sg_protocol.specs.Keyring.{Keyring, Program}
use Rattle.sg_protocol.specs.Node.{Node, program_for, is_cast, stranger, has_joined}
use Rattle.sg_protocol.specs.NodeStates.{NodeState, RepresentsNode, is_held_for, unless_spent, still_held, with_live, with_join, joined_by, state_taking}
use Rattle.sg_protocol.specs.Notes.{Notes, no_notes, row_number, notes_in_session, notes_of_read, session_of_frame}
use Rattle.sg_protocol.specs.Session.{Session, new_session, principal, Took}
use Rattle.sg_protocol.specs.Spelling.{HasSpelling}
use Rattle.sg_protocol.specs.Representation.{RepresentsBefore, nothing_kept, held_after}
use Rattle.sg_protocol.specs.Reachable.{IsReachableBefore, IsReachableAtTurn}
use Rattle.sg_protocol.specs.Texts.{real, session_id, session_text_of}
use Rattle.sg_protocol.specs.Verdict.{rows, rows_of_session, receipt, seen, decided, verdict_on}
use Rattle.sg_protocol.proofs.Reachable.{states_are_reachable}
use Rattle.sg_protocol.proofs.Live.{sessions_are_sound}
use Rattle.sg_protocol.proofs.RealHash.{real_hash}
use Rattle.sg_protocol.proofs.Representation.{states_represent}
use Rattle.sg_role.specs.Accepting.{Acceptance}
use Rattle.sg_role.specs.Faults.{Refuses}
use Rattle.sg_role.specs.Model.{RoleState}
use Rattle.sg_role.specs.Sending.{with_notes}
use Rattle.sg_role.specs.declared.fault.Refusal.{Refusal as RoleRefusal}
use Rattle.sg_role.specs.declared.fault.Refusal.TheVariants as role
use Rattle.sg_receipt.specs.Answers.{answer_of_delivery, graph_named, graph_of_delivery}
use Rattle.sg_node.specs.Answers.{may_take_memory}
use Rattle.sg_receipt.specs.declared.refusal.DeliveryRefusal.{DeliveryRefusal}
use Rattle.sg_node.specs.Taking.{TakesFrame}
use Rattle.sg_receipt.specs.Receipts.{Receipt, IsReceiptAt}
use Rattle.sg_node.specs.declared.join.Obstacle.{Obstacle}
use Rattle.sg_node.specs.declared.join.Obstacle.TheVariants as Why
use Rattle.sg_node.specs.declared.node.Node.TheInside.{Inside}
use Rattle.sg_receipt.specs.Refusals.{delivery_refusal}
use Rattle.sg_node.specs.Faults.{role_refusal}
use Rattle.sg_node.specs.Joining.{JoinsBy, obstacle_to, refusal_for}
use Rattle.sg_node.specs.Slots.{Slot, held_at, held_in, slot_of, left_after}
use Rattle.sg_node.specs.Invariant.{IsSlot, HoldsNode, node_state}
use Rattle.sg_node.proofs.InSlots.{found_all}
use Rattle.sg_node.proofs.Joined.{as_many, held_more, slots_more, no_slot, nothing_else, free_by, past_three}
use Rattle.sg_node.proofs.Starts.{first_state}
use Rattle.sg_node.proofs.Receipts.{role_refused, early, no_text_yet, text, no_program, bad_cast, no_key, bad_session, joining_rows, join_notes, join_session_is, unless_left, left_live, may_take as known_may_take}
use Rattle.sg_node.proofs.Continuing.{AcceptedBy, Noted, RefusedBy, same_state}
use Rattle.sg_node.proofs.Takings.{refused_by_role}

-- what is noted of a frame that is refused before a session is looked at
abbrev pub first_text : Cast → Notes
first_text c = record { made = []; found = []; hashed = session_text_of c ∷ [] }

-- the joins and the slots after a pair was joined, once room was made for it
module _ {s t : RoleState} (same : s ≡ t) where
  pub pair_joined : {old roomy new : List (List ℕ × ℕ)} → new ≡ roomy ++ (s.held.sid, s.held.role) ∷ [] → roomy ≡ old → new ≡ old ++ (t.held.sid, t.held.role) ∷ []
  pair_joined {old = old} e r = e ∙ ap (λ z. z ++ (s.held.sid, s.held.role) ∷ []) r ∙ ap (λ (s : RoleState). old ++ (s.held.sid, s.held.role) ∷ []) same

  pub slot_joined : (a : Acceptance) {old roomy new : List Slot} → new ≡ roomy ++ slot_of (s.held.sid, s.held.role) (left_after a) → roomy ≡ old → new ≡ old ++ slot_of (t.held.sid, t.held.role) (left_after a)
  slot_joined a {old = old} e r = e ∙ ap (λ z. z ++ slot_of (s.held.sid, s.held.role) (left_after a)) r ∙ ap (λ (s : RoleState). old ++ slot_of (s.held.sid, s.held.role) (left_after a)) same

-- ---- refusals that need no hash

module _ (n : NodeState) (f : Frame) (c : Cast) (j : f.join ≡ Some c) where
  pub no_program_for : program_for n.programs c.graph f.receiver ≡ None → (m : Node) → RepresentsNode n m → (verdict_on real m (Ok f) ≡ NotDelivered UnknownGraph) × (notes_of_read real m (Ok f) ≡ no_notes)
  no_program_for e m st =
      let r = no_program m f c j (subst (λ ps. program_for ps c.graph f.receiver ≡ None) st.programs e) in
      (ap (decided (receipt f)) r, early m f UnknownGraph r refl refl refl ∙ ap (λ h. record { made = []; found = []; hashed = h }) (no_text_yet m f c j 2 refl))

  module _ (p : Program) (q : program_for n.programs c.graph f.receiver ≡ Some p) where
    pub wrong_cast : (is_cast n.keys p.graph c f.receiver && nat_lt f.sender (length c.names)) ≡ false → (m : Node) → RepresentsNode n m → (verdict_on real m (Ok f) ≡ NotDelivered BadCast) × (notes_of_read real m (Ok f) ≡ no_notes)
    wrong_cast t m st =
        let r = bad_cast m f c j p (subst (λ ps. program_for ps c.graph f.receiver ≡ Some p) st.programs q) (subst (λ ks. (is_cast ks p.graph c f.receiver && nat_lt f.sender (length c.names)) ≡ false) st.keys t) in
        (ap (decided (receipt f)) r, early m f BadCast r refl refl refl ∙ ap (λ h. record { made = []; found = []; hashed = h }) (no_text_yet m f c j 3 refl))

    module _ (t : (is_cast n.keys p.graph c f.receiver && nat_lt f.sender (length c.names)) ≡ true) where
      pub unknown_peer : (name : List ℕ) → stranger n.keys c ≡ Some name → (m : Node) → RepresentsNode n m → (verdict_on real m (Ok f) ≡ NotDelivered (UnknownPeer name)) × (notes_of_read real m (Ok f) ≡ no_notes)
      unknown_peer name g m st =
          let r = no_key m f c j p (subst (λ ps. program_for ps c.graph f.receiver ≡ Some p) st.programs q)
          (subst (λ ks. (is_cast ks p.graph c f.receiver && nat_lt f.sender (length c.names)) ≡ true) st.keys t) name (subst (λ ks. stranger ks c ≡ Some name) st.keys g) in
          (ap (decided (receipt f)) r, early m f (UnknownPeer name) r refl refl refl ∙ ap (λ h. record { made = []; found = []; hashed = h }) (no_text_yet m f c j 4 refl))

      module _ (covered : stranger n.keys c ≡ None) where
        -- once the graph, the cast and the keys are right, memory may be taken
        pub may_take : (m : Node) → RepresentsNode n m → may_take_memory (verdict_on real m (Ok f)) ≡ true
        may_take m st = known_may_take m f c j p (subst (λ ps. program_for ps c.graph f.receiver ≡ Some p) st.programs q)
            (subst (λ ks. (is_cast ks p.graph c f.receiver && nat_lt f.sender (length c.names)) ≡ true) st.keys t) (subst (λ ks. stranger ks c ≡ None) st.keys covered)

        -- another session
        pub other_session : f.sid ≢ session_id real c → (m : Node) → RepresentsNode n m → (verdict_on real m (Ok f) ≡ NotDelivered BadSession) × (notes_of_read real m (Ok f) ≡ first_text c)
        other_session d m st =
            let b : bytes_eq f.sid (session_id real c) ≡ false = elim (cases_Bool (bytes_eq f.sid (session_id real c))) [ inl e ↦ absurd (d (same_bytes f.sid (session_id real c) e)) | inr e ↦ e ] in
            let r = bad_session m f c j p (subst (λ ps. program_for ps c.graph f.receiver ≡ Some p) st.programs q)
            (subst (λ ks. (is_cast ks p.graph c f.receiver && nat_lt f.sender (length c.names)) ≡ true) st.keys t) (subst (λ ks. stranger ks c ≡ None) st.keys covered) b in
            (ap (decided (receipt f)) r, early m f BadSession r refl refl refl ∙ ap (λ h. record { made = []; found = []; hashed = h }) (text m f c j 5 refl))

-- what hinders a frame from joining names no number
pub no_graph : (why : DeliveryRefusal) (o : Obstacle) → why ≡ refusal_for o → (g : Option Graph) → graph_of_delivery (Err why) ≡ graph_named (answer_of_delivery (Err why)) g
no_graph why o is g = subst (λ w. graph_of_delivery (Err w) ≡ graph_named (answer_of_delivery (Err w)) g) (sym is) (go o)
  where
    go : (o : Obstacle) → graph_of_delivery (Err (refusal_for o)) ≡ graph_named (answer_of_delivery (Err (refusal_for o))) g
    go Why.Joined = refl
    go Why.Cache = refl
    go Why.Sessions = refl

-- ---- the others, by the state of the node

-- the rows of a role that waits are behind those of the node
behind_four : (x : Option Refusal) (r : RoleRefusal) → Refuses x r → r ≢ role.OutOfMemory → nat_lt 4 (row_number x) ≡ true
behind_four x role.BadFrameTag h k = ap (λ x. nat_lt 4 (row_number x)) h
behind_four x role.NoSuchView h k = ap (λ x. nat_lt 4 (row_number x)) h
behind_four x (role.BadTime item got least) h k = ap (λ x. nat_lt 4 (row_number x)) h
behind_four x (role.BadEvidence item) h k = ap (λ x. nat_lt 4 (row_number x)) h
behind_four x (role.BadOpening var) h k = ap (λ x. nat_lt 4 (row_number x)) h
behind_four x role.OutOfMemory h k = absurd (k refl)

-- room leaves the node
pub same_node : (n : Inside) {st : NodeState} {joins : List (List ℕ × ℕ)} {slots : List Slot} → node_state n ≡ st → joins ≡ n.joins.pairs → slots ≡ n.sessions.slots → record { keys = n.keys; programs = n.programs.now; joins = joins; live = held_in slots } ≡ st
same_node n {slots = slots} is js ss =
    ap (λ z. record { keys = n.keys; programs = n.programs.now; joins = z; live = held_in slots }) js ∙ ap (λ z. record { keys = n.keys; programs = n.programs.now; joins = n.joins.pairs; live = held_in z }) ss ∙ is

-- and what it keeps true
pub still_slots : (n : Inside) {joins : List (List ℕ × ℕ)} {slots : List Slot} → HoldsNode n → joins ≡ n.joins.pairs → slots ≡ n.sessions.slots → AllByRecursion (IsSlot n.programs.now joins) slots
still_slots n {slots = slots} h js ss = subst (λ z. AllByRecursion (IsSlot n.programs.now z) slots) (sym js) (subst (AllByRecursion (IsSlot n.programs.now n.joins.pairs)) (sym ss) h.slots)

-- its cast is right, and all keys are there
pub record Enters (n : Inside) (f : Frame) (c : Cast) (p : Program) : Type 0 where
  pub holds : HoldsNode n
  pub by : JoinsBy (node_state n) f c p

-- as the state says
pub entering : {n : Inside} {st : NodeState} {f : Frame} {c : Cast} {p : Program} → node_state n ≡ st → HoldsNode n → JoinsBy st f c p → Enters n f c p
entering {f = f} {c = c} {p = p} is h j = record { holds = h; by = subst (λ (z : NodeState). JoinsBy z f c p) (sym is) j }

-- and its session is that of the cast, and nothing hinders it
pub record EntersFreely (n : Inside) (f : Frame) (c : Cast) (p : Program) : Type 0 where
  pub enters : Enters n f c p
  pub sid : f.sid ≡ session_id real c
  pub free : obstacle_to n.joins.pairs (length (held_in n.sessions.slots)) f.sid f.receiver ≡ None

-- as was found of the frame that was read
pub freely : {n : Inside} {f : Frame} {c : Cast} {p : Program} → Enters n f c p → (z : Frame) → z ≡ f → (sid : List ℕ) → z.sid ≡ sid → sid ≡ session_id real c
    → (o : Option Obstacle) → o ≡ obstacle_to n.joins.pairs (length (held_in n.sessions.slots)) z.sid z.receiver → o ≡ None → EntersFreely n f c p
freely {n = n} {c = c} k z same sid is its o e none = record {
  enters = k;
  sid = subst (λ (z : Frame). z.sid ≡ session_id real c) same (is ∙ its);
  free = ap (λ (z : Frame). obstacle_to n.joins.pairs (length (held_in n.sessions.slots)) z.sid z.receiver) (sym same) ∙ sym e ∙ none;
}

module _ {n : Inside} {f : Frame} {c : Cast} {p : Program} (k : Enters n f c p) where
  its_test : (bytes_eq p.digest c.graph && (p.role == f.receiver)) ≡ true
  its_test = find_passes (λ (p : Program). bytes_eq p.digest c.graph && (p.role == f.receiver)) n.programs.now p k.by.program

  pub its_role : p.role ≡ f.receiver
  its_role = eqb-true p.role f.receiver (and_right (bytes_eq p.digest c.graph) (p.role == f.receiver) its_test)

  pub its_graph : c.graph ≡ p.digest
  its_graph = sym (same_bytes p.digest c.graph (and_left (bytes_eq p.digest c.graph) (p.role == f.receiver) its_test))

  pub its_count : length c.names ≡ length p.graph.roles
  its_count =
      let same : Bool = length c.names == length p.graph.roles in
      let member : Bool = nat_lt f.receiver (length c.names) in
      let mine : Bool = bytes_eq (principal c f.receiver) n.keys.me in
      eqb-true (length c.names) (length p.graph.roles) (and_left same (all_differ c.names) (and_left (same && all_differ c.names) member (and_left (same && all_differ c.names && member) mine (and_left (is_cast n.keys p.graph c f.receiver) (nat_lt f.sender (length c.names)) k.by.cast))))

  pub its_program : IsProgram real p
  its_program = found_all (IsProgram real) _ n.programs.now p k.holds.programs k.by.program

  -- ---- what the ranges of a frame say

  module _ (sp : HasSpelling f) where
    its_cast : IsCastOf f.version c
    its_cast = subst (λ o. IfSome o (IsCastOf f.version)) k.by.joins sp.fields.join

    pub its_version : f.version ≡ c.version
    its_version = sym its_cast.version

    in_range : IsCast c
    in_range = record { version = subst (λ v. (v ≡ 1) ⊎ (v ≡ 2)) its_version sp.fields.version; fields = subst (λ v. IsCastOf v c) its_version its_cast }

    pub its_bound : p.role < most_roles
    its_bound = subst (λ r. r < most_roles) (sym its_role) sp.fields.roles.1

  both : (keys : Keyring) → n.keys ≡ keys → (is_cast keys p.graph c f.receiver && nat_lt f.sender (length c.names)) ≡ true
  both keys e = subst (λ z. (is_cast z p.graph c f.receiver && nat_lt f.sender (length c.names)) ≡ true) e k.by.cast

  module _ (m : Node) (st : RepresentsNode (node_state n) m) where
    q_here : program_for m.programs c.graph f.receiver ≡ Some p
    q_here = subst (λ ps. program_for ps c.graph f.receiver ≡ Some p) st.programs k.by.program

    covered_here : stranger m.keys c ≡ None
    covered_here = subst (λ keys. stranger keys c ≡ None) st.keys k.by.covered

    module _ (its_sid : f.sid ≡ session_id real c) where
      abbrev obstacles_by : Bool → Bool → Bool → Option Obstacle
      obstacles_by x y z = if x then Some Why.Joined else (if y then Some Why.Cache else (if z then Some Why.Sessions else None))

      same_obstacles : obstacle_to n.joins.pairs (length (held_in n.sessions.slots)) f.sid f.receiver ≡ obstacles_by (has_joined m.joins f.sid f.receiver) (nat_le 65536 (length m.joins)) (nat_le 4096 (length m.live))
      same_obstacles =
          ap (λ js. obstacle_to js (length (held_in n.sessions.slots)) f.sid f.receiver) st.joins
          ∙ ap (λ k. obstacle_to m.joins k f.sid f.receiver) (as_many m.programs (held_in n.sessions.slots) m.live st.live)

      abbrev refused_by : Obstacle → Option Refusal
      refused_by o = Some (delivery_refusal (refusal_for o))

      by_obstacle : (x y z : Bool) (o : Obstacle) (rest : List (Option Refusal)) → obstacles_by x y z ≡ Some o →
          first_some ((if x then Some Joined else None) ∷ (if y then Some CacheFull else None) ∷ (if z then Some SessionsFull else None) ∷ rest) ≡ refused_by o
      by_obstacle true y z o rest e = ap (λ (w : Option Obstacle). option_map_or refused_by w None) e
      by_obstacle false true z o rest e = ap (λ (w : Option Obstacle). option_map_or refused_by w None) e
      by_obstacle false false true o rest e = ap (λ (w : Option Obstacle). option_map_or refused_by w None) e
      by_obstacle false false false o rest e = absurd (cc)

      pub hindered : (why : DeliveryRefusal) (o : Obstacle) → why ≡ refusal_for o → obstacle_to n.joins.pairs (length (held_in n.sessions.slots)) f.sid f.receiver ≡ Some o →
          (verdict_on real m (Ok f) ≡ NotDelivered (delivery_refusal why)) × (notes_of_read real m (Ok f) ≡ first_text c)
      hindered why o is e =
          let r = go o (joining_rows m f c k.by.joins p q_here (both m.keys st.keys) covered_here (bytes_same f.sid (session_id real c) its_sid)
          ∙ by_obstacle (has_joined m.joins f.sid f.receiver) (nat_le 65536 (length m.joins)) (nat_le 4096 (length m.live)) o (rows_of_session real m.keys p (new_session f.sid c f.receiver) f) (sym same_obstacles ∙ e)) in
          (r.0 ∙ ap (λ w. NotDelivered (delivery_refusal w)) (sym is), r.1)
        where
          go : (o : Obstacle) → first_some (rows real m f) ≡ refused_by o → (verdict_on real m (Ok f) ≡ NotDelivered (delivery_refusal (refusal_for o))) × (notes_of_read real m (Ok f) ≡ first_text c)
          go Why.Joined r = (ap (decided (receipt f)) r, early m f Joined r refl refl refl ∙ ap (λ h. record { made = []; found = []; hashed = h }) (text m f c k.by.joins 6 refl))
          go Why.Cache r = (ap (decided (receipt f)) r, early m f CacheFull r refl refl refl ∙ ap (λ h. record { made = []; found = []; hashed = h }) (text m f c k.by.joins 7 refl))
          go Why.Sessions r = (ap (decided (receipt f)) r, early m f SessionsFull r refl refl refl ∙ ap (λ h. record { made = []; found = []; hashed = h }) (text m f c k.by.joins 8 refl))

  -- ---- the session that it joins

  module _ (its_sid : f.sid ≡ session_id real c) where
    abbrev its_session : Session
    its_session = new_session (session_id real c) c p.role

    same_session : new_session f.sid c f.receiver ≡ its_session
    same_session = ap (λ z. new_session z c f.receiver) its_sid ∙ ap (λ z. new_session (session_id real c) c z) (sym its_role)

    represents : RepresentsBefore p.graph (first_state p c).held its_session
    represents = (states_represent real).is_new p.graph (session_id real c) c p.role

    module _ (m : Node) (st : RepresentsNode (node_state n) m) (none : obstacle_to n.joins.pairs (length (held_in n.sessions.slots)) f.sid f.receiver ≡ None) where
      its_rows : first_some (rows real m f) ≡ first_some (rows_of_session real m.keys p (new_session f.sid c f.receiver) f)
      its_rows =
          let z = nothing_else (has_joined m.joins f.sid f.receiver) (nat_le 65536 (length m.joins)) (nat_le 4096 (length m.live)) (sym (same_obstacles m st its_sid) ∙ none) in
          joining_rows m f c k.by.joins p (q_here m st) (both m.keys st.keys) (covered_here m st) (bytes_same f.sid (session_id real c) its_sid)
          ∙ past_three (has_joined m.joins f.sid f.receiver) (nat_le 65536 (length m.joins)) (nat_le 4096 (length m.live)) Joined CacheFull SessionsFull (rows_of_session real m.keys p (new_session f.sid c f.receiver) f) z.0 z.1 z.2

      here_rows : first_some (rows_of_session real m.keys p (new_session f.sid c f.receiver) f) ≡ first_some (rows_of_session real n.keys p its_session f)
      here_rows = ap (λ s. first_some (rows_of_session real m.keys p s f)) same_session ∙ ap (λ k. first_some (rows_of_session real k p its_session f)) (sym st.keys)

      verdict_is : {q : RoleRefusal} {before after : Notes} → RefusedBy n.keys (first_state p c) f q before after → (o : Refusal) → role_refusal q ≡ Some o → verdict_on real m (Ok f) ≡ NotDelivered o
      verdict_is {q = q} d o told = role_refused (receipt f) (first_some (rows real m f)) q o (subst (λ x. Refuses x q) (sym (its_rows ∙ here_rows)) (d.rows its_session represents)) told

      -- its session, with its program
      session_of : session_of_frame m f ≡ Some (p, new_session f.sid c f.receiver)
      session_of = join_session_is m f c k.by.joins p (q_here m st) ∙ ap (option_map (λ (p : Program). (p, new_session f.sid c f.receiver))) (q_here m st)

      -- a receipt of this view is of its session, in which the role has done nothing
      shown : (r : Receipt) → r.program ≡ p → slice_get p.views r.view ≡ Some (record { origin = None; items = map seen f.items }) → IsReceiptAt m f r
      shown r is v = record {
        session = new_session f.sid c f.receiver;
        is_session = session_of ∙ ap (λ z. Some (z, new_session f.sid c f.receiver)) (sym is);
        view = ap (λ (z : Program). slice_get z.views r.view) is ∙ v;
      }

      happened : {a : Acceptance} {before after : Notes} → AcceptedBy n.keys (first_state p c) f a before after → verdict_on real m (Ok f) ≡ Happened (receipt f)
      happened d = ap (decided (receipt f)) (its_rows ∙ here_rows ∙ d.rows its_session represents)

      -- the session text was noted, and then what the role notes
      module _ (first before after : Notes) (e : before ≡ record first { hashed = first.hashed ++ session_text_of c ∷ [] }) where
        noted : Noted n.keys (first_state p c) f before after → nat_lt 4 (row_number (first_some (rows_of_session real n.keys p its_session f))) ≡ true → after ≡ with_notes first (notes_of_read real m (Ok f))
        noted g l =
            let all : Notes = notes_in_session real n.keys p its_session f (row_number (first_some (rows_of_session real n.keys p its_session f))) in
            let same : notes_in_session real m.keys p (new_session f.sid c f.receiver) f (row_number (first_some (rows_of_session real m.keys p (new_session f.sid c f.receiver) f))) ≡ all =
            ap (λ s. notes_in_session real m.keys p s f (row_number (first_some (rows_of_session real m.keys p s f)))) same_session
            ∙ ap (λ k. notes_in_session real k p its_session f (row_number (first_some (rows_of_session real k p its_session f)))) (sym st.keys) in
            let read : notes_of_read real m (Ok f) ≡ record all { hashed = session_text_of c ∷ all.hashed } =
            join_notes m f c k.by.joins p (q_here m st) its_rows (ap (λ x. nat_lt 4 (row_number x)) here_rows ∙ l)
            ∙ ap (λ (z : Notes). record z { hashed = session_text_of c ∷ z.hashed }) same in
            g its_session represents ∙ ap (λ z. with_notes z all) e
            ∙ ap (λ hs. record { made = first.made ++ all.made; found = first.found ++ all.found; hashed = hs }) (append_assoc first.hashed (session_text_of c ∷ []) all.hashed)
            ∙ ap (with_notes first) (sym read)

        noted_refused : {q : RoleRefusal} → RefusedBy n.keys (first_state p c) f q before after → q ≢ role.OutOfMemory → after ≡ with_notes first (notes_of_read real m (Ok f))
        noted_refused {q = q} d told = noted (d.notes told) (behind_four (first_some (rows_of_session real n.keys p its_session f)) q (d.rows its_session represents) told)

        noted_taken : {a : Acceptance} → AcceptedBy n.keys (first_state p c) f a before after → after ≡ with_notes first (notes_of_read real m (Ok f))
        noted_taken d = noted d.notes (ap (λ x. nat_lt 4 (row_number x)) (d.rows its_session represents))

    -- the node refuses the frame, or memory runs out
    pub refuses : {E : Type 0} {st new : NodeState} {q : RoleRefusal} {first before after : Notes} {g : Graph} → node_state n ≡ st → new ≡ st → obstacle_to n.joins.pairs (length (held_in n.sessions.slots)) f.sid f.receiver ≡ None
        → before ≡ record first { hashed = first.hashed ++ session_text_of c ∷ [] } → RefusedBy n.keys (first_state p c) f q before after → g ≡ p.graph
        → (res : Result (Result Receipt DeliveryRefusal) E) → IfOk res (λ r. IsErr r) → MatchResult res (λ r. IfErr r (λ why. role_refusal q ≡ Some (delivery_refusal why))) (λ e. q ≡ role.OutOfMemory)
        → IfOk res (λ r. graph_of_delivery r ≡ graph_named (answer_of_delivery r) (Some g)) → TakesFrame st new first before after f res
    refuses {q = q} {first = first} {before = before} {after = after} is same none e d its res x w beside = refused_by_role q res is same x w beside
        (λ m st. verdict_is m st none d)
        (λ m st. ap (λ (g : Graph). Some g) its ∙ ap (option_map (λ (x : Program × Session). x.0.graph)) (sym (session_of m st none)))
        (λ m st told. noted_refused m st none first before after e d told)
        d.memory

    -- ---- a pair that can be joined

    module _ (none : obstacle_to n.joins.pairs (length (held_in n.sessions.slots)) f.sid f.receiver ≡ None) where
      pub free_pair : (¬ Contains n.joins.pairs (session_id real c, p.role)) × (length n.joins.pairs < 65536)
      free_pair =
          let z = free_by n.joins.pairs (length (held_in n.sessions.slots)) f.sid f.receiver none in
          (subst (λ s. ¬ Contains n.joins.pairs (s, p.role)) its_sid (subst (λ r. ¬ Contains n.joins.pairs (f.sid, r)) (sym its_role) z.0), z.1)

      pub no_slot_yet : ¬ Contains (map (λ (s : Slot). s.0) n.sessions.slots) (session_id real c, p.role)
      no_slot_yet = no_slot n.programs.now n.joins.pairs (session_id real c, p.role) n.sessions.slots k.holds.slots free_pair.0

    -- ---- what is left

    module _ (sp : HasSpelling f) (a : Acceptance) {before after : Notes} (d : AcceptedBy n.keys (first_state p c) f a before after) where
      rows_none : first_some (rows_of_session real n.keys p its_session f) ≡ None
      rows_none = d.rows its_session represents

      pub not_starter : role_at (shape p.graph) 0 ≢ p.role
      not_starter = (sessions_are_sound real real_hash).not_at_start n.keys p its_session f its_program refl refl rows_none

      back : IsReachableBefore real p (first_state p c).held
      back = (states_are_reachable real real_hash).is_new p (session_id real c) c its_program (subst (AreBytes 32) its_sid sp.fields.sid) (in_range sp) its_graph

      reachable : IsReachableAtTurn real p (held_after p.graph (first_state p c).held (Took f))
      reachable = (states_are_reachable real real_hash).takes n.keys p (first_state p c).held its_session f its_program back represents sp (its_version sp) rows_none

      known : program_for n.programs.now c.graph p.role ≡ Some p
      known = ap (program_for n.programs.now c.graph) its_role ∙ k.by.program

      pub join_slots : AllByRecursion (IsSlot n.programs.now (n.joins.pairs ++ (session_id real c, p.role) ∷ [])) (n.sessions.slots ++ slot_of (session_id real c, p.role) (left_after a))
      join_slots = slots_more n.programs.now n.joins.pairs (session_id real c, p.role) n.sessions.slots (left_after a) k.holds.slots
          (left_live p (held_after p.graph (first_state p c).held (Took f)) reachable a (same_state d) n.programs.now (session_id real c) p.role refl refl known)

      joined : joined_by n.programs.now f c ≡ held_at (left_after a)
      joined =
          ap (λ (o : Option Program). option_map_or (λ p. unless_spent p (held_after p.graph (record { sid = f.sid; cast = c; role = f.receiver; kept = nothing_kept p.graph }) (Took f))) o []) k.by.program
          ∙ ap (λ z. unless_spent p (held_after p.graph (record { sid = z; cast = c; role = f.receiver; kept = nothing_kept p.graph }) (Took f))) its_sid
          ∙ ap (λ z. unless_spent p (held_after p.graph (record { sid = session_id real c; cast = c; role = z; kept = nothing_kept p.graph }) (Took f))) (sym its_role)
          ∙ unless_left p (held_after p.graph (first_state p c).held (Took f)) reachable a (same_state d)

      join_state : record { keys = n.keys; programs = n.programs.now; joins = n.joins.pairs ++ (session_id real c, p.role) ∷ []; live = held_in (n.sessions.slots ++ slot_of (session_id real c, p.role) (left_after a)) } ≡ state_taking (node_state n) (Ok f)
      join_state =
          ap (λ hs. record { keys = n.keys; programs = n.programs.now; joins = n.joins.pairs ++ (session_id real c, p.role) ∷ []; live = hs })
          (held_more n.sessions.slots (session_id real c, p.role) (left_after a) ∙ ap (λ z. held_in n.sessions.slots ++ z) (sym joined))
          ∙ ap (λ z. record { keys = n.keys; programs = n.programs.now; joins = n.joins.pairs ++ z ∷ []; live = held_in n.sessions.slots ++ joined_by n.programs.now f c }) (ap (λ z. (z, p.role)) (sym its_sid) ∙ ap (λ z. (f.sid, z)) its_role)
          ∙ ap (λ (o : Option Cast). option_map_or (λ c. with_join (node_state n) f.sid f.receiver (joined_by n.programs.now f c)) o (with_live (node_state n) (is_held_for f) (λ z. still_held n.programs.now z (Took f)))) (sym k.by.joins)

      -- the node takes the frame
      pub takes : {E : Type 0} {st : NodeState} {first : Notes} → node_state n ≡ st → obstacle_to n.joins.pairs (length (held_in n.sessions.slots)) f.sid f.receiver ≡ None
          → before ≡ record first { hashed = first.hashed ++ session_text_of c ∷ [] }
          → (joins : List (List ℕ × ℕ)) → joins ≡ n.joins.pairs ++ (session_id real c, p.role) ∷ [] → (slots : List Slot) → slots ≡ n.sessions.slots ++ slot_of (session_id real c, p.role) (left_after a)
          → (shared : Option Cast) → shared ≡ f.join → (r : Receipt) → r ≡ record { event = a.event; program = a.program; view = a.view; cast = shared }
          → TakesFrame {E = E} st (record { keys = n.keys; programs = n.programs.now; joins = joins; live = held_in slots }) first before after f (Ok (Ok r))
      takes {E = E} {first = first} is none e joins js slots ss shared again r got = subst (λ (z : NodeState). TakesFrame {E = E} z (record { keys = n.keys; programs = n.programs.now; joins = joins; live = held_in slots }) first before after f (Ok (Ok r))) is (record {
        answer = λ m st. happened m st none d ∙ ap Happened (sym d.event) ∙ ap (λ (r : Receipt). Happened r.event) (sym got);
        graph = λ m st. ap (λ (r : Receipt). Some r.program.graph) got ∙ ap (λ (p : Program). Some p.graph) d.program ∙ ap (option_map (λ (x : Program × Session). x.0.graph)) (sym (session_of m st none));
        shown = λ m st. subst (λ (r : Receipt). IsReceiptAt m f r × (r.cast ≡ f.join)) (sym got) (shown m st none (record { event = a.event; program = a.program; view = a.view; cast = shared }) d.program d.view, again);
        taken =
            ap (λ z. record { keys = n.keys; programs = n.programs.now; joins = z; live = held_in slots }) js
            ∙ ap (λ z. record { keys = n.keys; programs = n.programs.now; joins = n.joins.pairs ++ (session_id real c, p.role) ∷ []; live = held_in z }) ss ∙ join_state;
        refused = tt;
        notes = λ m st. noted_taken m st none first before after e d;
        memory = tt;
      })
