-- A frame that continues a session of a node.
use Rattle.std.specs.Prelude.{◌≡◌, ℕ, ◌==◌, ◌&&◌, Bool, true, false, List, [], ◌∷◌, find, map, slice_get, bytes_eq, refl, ◌≢◌, Option, Some, None, option_map, Result, Ok, IsErr, IfOk, IfErr, MatchResult}
use Rattle.std.specs.Option.{option_map_or}
use Rattle.std.specs.List.{AllByRecursion}
use Rattle.std.proofs.Common.{sym, ◌∙◌, ap, subst}
use Rattle.std.proofs.lemmas.Bool.{eqb-true}
use Rattle.indexmap.specs.IndexMap.{set_value_at}
use Rattle.sg_model.proofs.Small.{and_right, and_true, and_false}
use Rattle.sg_model.specs.Lists.{first_some}
use Rattle.sg_protocol.specs.Calls.{Happened, NotDelivered, UnknownSession, NotWaiting, Refusal}
use Rattle.sg_protocol.specs.Frame.{Cast, Frame}
use Rattle.sg_protocol.specs.Graph.{Graph}
use Rattle.sg_protocol.specs.Keyring.{Keyring, Program}
use Rattle.sg_protocol.specs.Node.{Node, session_for}
use Rattle.sg_protocol.specs.NodeStates.{NodeState, RepresentsNode, RepresentsIf, is_held_for, unless_spent, still_held, with_live, with_join, joined_by, state_taking}
use Rattle.sg_protocol.specs.Notes.{Notes, no_notes, row_number, notes_in_session, notes_of_read, session_of_frame}
use Rattle.sg_protocol.specs.Session.{Session, Took}
use Rattle.sg_protocol.specs.Spelling.{HasSpelling}
use Rattle.sg_protocol.specs.Representation.{Held, RepresentsBefore, held_after}
use Rattle.sg_protocol.specs.Reachable.{IsReachableAtTurn, IsReachableWaiting}
use Rattle.sg_protocol.specs.Texts.{real}
use Rattle.sg_protocol.specs.Verdict.{rows, rows_of_session, receipt, seen, decided, verdict_on}
use Rattle.sg_protocol.proofs.Reachable.{states_are_reachable}
use Rattle.sg_protocol.proofs.NodeStates.{node_states_represent}
use Rattle.sg_protocol.proofs.RealHash.{real_hash}
use Rattle.sg_role.specs.Accepting.{Acceptance, state_after}
use Rattle.sg_role.specs.Faults.{Refuses}
use Rattle.sg_role.specs.Sending.{with_notes}
use Rattle.sg_role.specs.Model.{RoleState}
use Rattle.sg_role.specs.declared.fault.Refusal.{Refusal as RoleRefusal}
use Rattle.sg_role.specs.declared.fault.Refusal.TheVariants as role
use Rattle.sg_receipt.specs.Answers.{answer_of_delivery, graph_named, graph_of_delivery}
use Rattle.sg_node.specs.Answers.{may_take_memory}
use Rattle.sg_receipt.specs.declared.refusal.DeliveryRefusal.{DeliveryRefusal}
use Rattle.sg_receipt.specs.Receipts.{Receipt, IsReceiptAt}
use Rattle.sg_node.specs.declared.node.Node.TheInside.{Inside}
use Rattle.sg_node.specs.declared.sessions.Live.TheVariants.{AtTurn, Waiting}
use Rattle.sg_receipt.specs.Refusals.{delivery_refusal}
use Rattle.sg_node.specs.Faults.{role_refusal}
use Rattle.sg_node.specs.Taking.{TakesFrame}
use Rattle.sg_node.specs.Slots.{Slot, state_in, held_at, held_in, is_for, first_index, left_after}
use Rattle.sg_node.specs.Invariant.{IsSlot, HoldsNode, node_state}
use Rattle.sg_node.proofs.Indices.{live_at, Tests, First, held_first}
use Rattle.sg_node.proofs.InSlots.{Its, AtIndex, none_here, its_slot, replaced, its_program, its_passes, session_here}
use Rattle.sg_node.proofs.Memory.{by_session}
use Rattle.sg_node.proofs.Receipts.{role_refused, early, no_text, no_session, not_waiting, next_rows_waiting, next_notes, session_is, unless_left, left_live}
use Rattle.sg_node.proofs.Takings.{refused_by_role}

turned : (v a b : Bool) → (v && a && b) ≡ (a && b && v)
turned true a b = sym (and_true (a && b))
turned false a b = sym (and_false (a && b))

-- a slot passes if what is held there is held for the frame
module _ (f : Frame) (ps : List Program) (js : List (List ℕ × ℕ)) where
  test_for : (s : Slot) → IsSlot ps js s → Tests (is_held_for f) (is_for f) s
  test_for (k, None) h = refl
  test_for (k, Some l) h =
      let v : Bool = ((state_in l).held.cast).version == f.version in
      turned v (bytes_eq k.0 f.sid) (k.1 == f.receiver)
      ∙ ap (λ z. bytes_eq z f.sid && (k.1 == f.receiver) && v) (sym h.1.sid)
      ∙ ap (λ z. bytes_eq (state_in l).held.sid f.sid && (z == f.receiver) && v) (sym h.1.role)

  tests_for : (ss : List Slot) → AllByRecursion (IsSlot ps js) ss → AllByRecursion (Tests (is_held_for f) (is_for f)) ss
  tests_for [] h = tt
  tests_for (s ∷ ss) h = (test_for s h.0, tests_for ss h.1)

-- the first slot for a frame is that for the same frame
pub index_for : (f g : Frame) (ss : List Slot) (o : Option ℕ) → f ≡ g → o ≡ first_index (is_for f) ss → first_index (is_for g) ss ≡ o
index_for f g ss o same found = ap (λ z. first_index (is_for z) ss) (sym same) ∙ sym found

-- what a role that kept this notes of a frame
abbrev pub Noted : Keyring → RoleState → Frame → Notes → Notes → Type 0
Noted keys t f before after = (s : Session) → RepresentsBefore t.program.graph t.held s → after ≡ with_notes before (notes_in_session real keys t.program s f (row_number (first_some (rows_of_session real keys t.program s f))))

-- it accepts the frame
pub record AcceptedBy (keys : Keyring) (t : RoleState) (f : Frame) (a : Acceptance) (old new : Notes) : Type 0 where
  pub rows : (s : Session) → RepresentsBefore t.program.graph t.held s → first_some (rows_of_session real keys t.program s f) ≡ None
  pub program : a.program ≡ t.program
  pub before : a.before ≡ t.held
  pub after : a.after ≡ held_after t.program.graph t.held (Took f)
  pub event : a.event ≡ receipt f
  pub view : slice_get t.program.views a.view ≡ Some (record { origin = t.held.kept.origin; items = map seen f.items })
  pub notes : Noted keys t f old new

-- it refuses the frame
pub record RefusedBy (keys : Keyring) (t : RoleState) (f : Frame) (q : RoleRefusal) (old new : Notes) : Type 0 where
  pub rows : (s : Session) → RepresentsBefore t.program.graph t.held s → Refuses (first_some (rows_of_session real keys t.program s f)) q
  pub notes : q ≢ role.OutOfMemory → Noted keys t f old new
  pub memory : q ≡ role.OutOfMemory → new ≡ old

-- so does the same role the same frame
module _ {keys : Keyring} {s t : RoleState} {g f : Frame} {before after : Notes} (e : s ≡ t) (k : g ≡ f) where
  pub accepted_by : {a : Acceptance} → ((x : Session) → RepresentsBefore s.program.graph s.held x → first_some (rows_of_session real keys s.program x g) ≡ None) → a.program ≡ s.program → a.before ≡ s.held
      → a.after ≡ held_after s.program.graph s.held (Took g) → a.event ≡ receipt g → slice_get s.program.views a.view ≡ Some (record { origin = s.held.kept.origin; items = map seen g.items }) → Noted keys s g before after
      → AcceptedBy keys t f a before after
  accepted_by {a = a} r p b h v w n = subst (λ (z : RoleState). AcceptedBy keys z f a before after) e
      (subst (λ (z : Frame). AcceptedBy keys s z a before after) k (record { rows = r; program = p; before = b; after = h; event = v; view = w; notes = n }))

  pub refused_by : {q : RoleRefusal} → RefusedBy keys s g q before after → RefusedBy keys t f q before after
  refused_by {q = q} d = subst (λ (z : RoleState). RefusedBy keys z f q before after) e (subst (λ (z : Frame). RefusedBy keys s z q before after) k d)

pub same_state : {keys : Keyring} {t : RoleState} {f : Frame} {a : Acceptance} {before after : Notes} → AcceptedBy keys t f a before after → state_after a ≡ record { program = t.program; held = held_after t.program.graph t.held (Took f) }
same_state d = λ i. record { program = d.program i; held = d.after i }

module _ (n : Inside) (h : HoldsNode n) (f : Frame) where
  pub tests : AllByRecursion (Tests (is_held_for f) (is_for f)) n.sessions.slots
  tests = tests_for f n.programs.now n.joins.pairs n.sessions.slots h.slots

  pub represents_if : (m : Node) → RepresentsNode (node_state n) m → RepresentsIf m.programs (find (is_held_for f) (held_in n.sessions.slots)) (session_for m.live f)
  represents_if m st = (node_states_represent real real_hash).finds_for_frame m.programs (held_in n.sessions.slots) m.live f st.live

  -- no session is there for the frame
  pub unknown : f.join ≡ None → first_index (is_for f) n.sessions.slots ≡ None → (m : Node) → RepresentsNode (node_state n) m → (verdict_on real m (Ok f) ≡ NotDelivered UnknownSession) × (notes_of_read real m (Ok f) ≡ no_notes)
  unknown j e m st =
      let r = no_session m f j (none_here n h (is_held_for f) (is_for f) tests e m.programs (session_for m.live f) (represents_if m st)) in
      (ap (decided (receipt f)) r, early m f UnknownSession r refl refl refl ∙ ap (λ h. record { made = []; found = []; hashed = h }) (no_text m f j 9))

  -- the slot of the session for the frame
  pub first_for : (i : ℕ) → first_index (is_for f) n.sessions.slots ≡ Some i → First (is_held_for f) (is_for f) n.sessions.slots i
  first_for i e = held_first (is_held_for f) (is_for f) n.sessions.slots i tests e

  module _ (i : ℕ) (t : RoleState) (e : first_index (is_for f) n.sessions.slots ≡ Some i) where
    -- its session is at its turn
    pub at_its_turn : live_at n.sessions.slots i ≡ Some (AtTurn t) → f.join ≡ None → (m : Node) → RepresentsNode (node_state n) m → (verdict_on real m (Ok f) ≡ NotDelivered NotWaiting) × (notes_of_read real m (Ok f) ≡ no_notes)
    at_its_turn there j m st =
        let x : Its m.programs (AtTurn t) (session_for m.live f) = session_here n h (is_held_for f) (is_for f) tests i (AtTurn t) e there m st (session_for m.live f) (represents_if m st) in
        let r = not_waiting m f j x.session t.program x.is x.program x.represents.turn in
        (ap (decided (receipt f)) r, early m f NotWaiting r refl refl refl ∙ ap (λ h. record { made = []; found = []; hashed = h }) (no_text m f j 10))

    -- it waits
    module _ (there : live_at n.sessions.slots i ≡ Some (Waiting t)) where
      at : AtIndex n.programs.now n.joins.pairs n.sessions.slots i (Waiting t)
      at = its_slot n h (is_held_for f) (is_for f) tests i (Waiting t) e there

      pub version_is : f.version ≡ (t.held.cast).version
      version_is = sym (eqb-true (t.held.cast).version f.version (and_right (bytes_eq t.held.sid f.sid && (t.held.role == f.receiver)) ((t.held.cast).version == f.version) (its_passes n h (is_held_for f) (is_for f) tests i (Waiting t) e there)))

      module _ (j : f.join ≡ None) (m : Node) (st : RepresentsNode (node_state n) m) where
        pub it : Its m.programs (Waiting t) (session_for m.live f)
        it = session_here n h (is_held_for f) (is_for f) tests i (Waiting t) e there m st (session_for m.live f) (represents_if m st)

        its_rows : first_some (rows real m f) ≡ first_some (rows_of_session real n.keys t.program it.session f)
        its_rows = next_rows_waiting m f j it.session t.program it.is it.program it.represents.waits ∙ ap (λ k. first_some (rows_of_session real k t.program it.session f)) (sym st.keys)

        verdict_is : {q : RoleRefusal} {before after : Notes} → RefusedBy n.keys t f q before after → (o : Refusal) → role_refusal q ≡ Some o → verdict_on real m (Ok f) ≡ NotDelivered o
        verdict_is {q = q} d o k = role_refused (receipt f) (first_some (rows real m f)) q o (subst (λ x. Refuses x q) (sym its_rows) (d.rows it.session it.represents.before)) k

        -- its session, with its program
        session_of : session_of_frame m f ≡ Some (t.program, it.session)
        session_of = session_is m f j it.session t.program it.is it.program

        -- a receipt of this view is of its session
        shown : (r : Receipt) → r.program ≡ t.program → slice_get t.program.views r.view ≡ Some (record { origin = t.held.kept.origin; items = map seen f.items }) → IsReceiptAt m f r
        shown r is v = record {
          session = it.session;
          is_session = session_of ∙ ap (λ p. Some (p, it.session)) (sym is);
          view = ap (λ (p : Program). slice_get p.views r.view) is ∙ v ∙ ap (λ (k : Held). Some (record { origin = k.kept.origin; items = map seen f.items })) it.represents.before.holds;
        }

        -- it comes to its session, so memory may be taken
        pub may_take : may_take_memory (verdict_on real m (Ok f)) ≡ true
        may_take = ap (λ x. may_take_memory (decided (receipt f) x)) its_rows ∙ by_session (receipt f) n.keys t.program it.session f

        happened : {a : Acceptance} {before after : Notes} → AcceptedBy n.keys t f a before after → verdict_on real m (Ok f) ≡ Happened (receipt f)
        happened d = ap (decided (receipt f)) (its_rows ∙ d.rows it.session it.represents.before)

        noted : (before after : Notes) → Noted n.keys t f before after → after ≡ with_notes before (notes_of_read real m (Ok f))
        noted before after g =
            g it.session it.represents.before
            ∙ ap (with_notes before) (sym (next_notes m f j it.session t.program it.is it.program it.represents.waits ∙ ap (λ k. notes_in_session real k t.program it.session f (row_number (first_some (rows_of_session real k t.program it.session f)))) (sym st.keys)))

      module _ (sp : HasSpelling f) (a : Acceptance) {before after : Notes} (d : AcceptedBy n.keys t f a before after) where
        reachable : IsReachableAtTurn real t.program (held_after t.program.graph t.held (Took f))
        reachable =
            let b : IsReachableWaiting real t.program t.held = at.live.reachable in
            let laws = states_are_reachable real real_hash in
            laws.takes n.keys t.program t.held b.session f (its_program n h (is_held_for f) (is_for f) tests i (Waiting t) e there) (laws.before t.program t.held b) b.represents.before sp version_is (d.rows b.session b.represents.before)

        pub next_slots : AllByRecursion (IsSlot n.programs.now n.joins.pairs) (set_value_at n.sessions.slots i (left_after a))
        next_slots = at.put (left_after a) (left_live t.program (held_after t.program.graph t.held (Took f)) reachable a (same_state d) n.programs.now (at.key).0 (at.key).1 at.live.sid at.live.role at.live.program)

        still : still_held n.programs.now t.held (Took f) ≡ held_at (left_after a)
        still =
            ap (λ (o : Option Program). option_map_or (λ p. unless_spent p (held_after p.graph t.held (Took f))) o []) at.live.program
            ∙ unless_left t.program (held_after t.program.graph t.held (Took f)) reachable a (same_state d)

        next_state : f.join ≡ None → record { keys = n.keys; programs = n.programs.now; joins = n.joins.pairs; live = held_in (set_value_at n.sessions.slots i (left_after a)) } ≡ state_taking (node_state n) (Ok f)
        next_state j =
            ap (λ hs. record { keys = n.keys; programs = n.programs.now; joins = n.joins.pairs; live = hs })
            (replaced n h (is_held_for f) (is_for f) tests i (Waiting t) e there (left_after a) (λ z. still_held n.programs.now z (Took f)) still)
            ∙ ap (λ (o : Option Cast). option_map_or (λ c. with_join (node_state n) f.sid f.receiver (joined_by n.programs.now f c)) o (with_live (node_state n) (is_held_for f) (λ z. still_held n.programs.now z (Took f)))) (sym j)

        -- the node takes the frame
        pub takes : {E : Type 0} {st : NodeState} → node_state n ≡ st → f.join ≡ None → (slots : List Slot) → slots ≡ set_value_at n.sessions.slots i (left_after a)
            → (r : Receipt) → r ≡ record { event = a.event; program = a.program; view = a.view; cast = None }
            → TakesFrame {E = E} st (record { keys = n.keys; programs = n.programs.now; joins = n.joins.pairs; live = held_in slots }) before before after f (Ok (Ok r))
        takes {E = E} is j slots left r got = subst (λ (z : NodeState). TakesFrame {E = E} z (record { keys = n.keys; programs = n.programs.now; joins = n.joins.pairs; live = held_in slots }) before before after f (Ok (Ok r))) is (record {
          answer = λ m st. happened j m st d ∙ ap Happened (sym d.event) ∙ ap (λ (r : Receipt). Happened r.event) (sym got);
          graph = λ m st. ap (λ (r : Receipt). Some r.program.graph) got ∙ ap (λ (p : Program). Some p.graph) d.program ∙ ap (option_map (λ (x : Program × Session). x.0.graph)) (sym (session_of j m st));
          shown = λ m st. subst (λ (r : Receipt). IsReceiptAt m f r × (r.cast ≡ f.join)) (sym got) (shown j m st (record { event = a.event; program = a.program; view = a.view; cast = None }) d.program d.view, sym j);
          taken = ap (λ ss. record { keys = n.keys; programs = n.programs.now; joins = n.joins.pairs; live = held_in ss }) left ∙ next_state j;
          refused = tt;
          notes = λ m st. noted j m st before after d.notes;
          memory = tt;
        })

      -- the node refuses the frame, or memory runs out
      pub refuses : {E : Type 0} {st : NodeState} {q : RoleRefusal} {before after : Notes} {g : Graph} → node_state n ≡ st → f.join ≡ None → RefusedBy n.keys t f q before after → g ≡ t.program.graph
          → (res : Result (Result Receipt DeliveryRefusal) E) → IfOk res (λ r. IsErr r) → MatchResult res (λ r. IfErr r (λ why. role_refusal q ≡ Some (delivery_refusal why))) (λ e. q ≡ role.OutOfMemory)
          → IfOk res (λ r. graph_of_delivery r ≡ graph_named (answer_of_delivery r) (Some g)) → TakesFrame st st before before after f res
      refuses {q = q} {before = before} {after = after} is j d same res e w k = refused_by_role q res is refl e w k
          (λ m st. verdict_is j m st d)
          (λ m st. ap (λ (g : Graph). Some g) same ∙ ap (option_map (λ (x : Program × Session). x.0.graph)) (sym (session_of j m st)))
          (λ m st told. noted j m st before after (d.notes told))
          d.memory
