-- What a node answers to a start, and what is live after it.
use Rattle.std.specs.Prelude.{◌≡◌, ℕ, nat_le, not, Bool, true, false, if◌then◌else◌, List, [], ◌∷◌, ◌++◌, length, refl, Option, Some, None, option_map, Result, Ok, Err, IfOk}
use Rattle.std.specs.Option.{option_map_or}
use Rattle.std.specs.List.{AllByRecursion}
use Rattle.std.proofs.Common.{sym, ◌∙◌, ap, subst, append-nil}
use Rattle.std.proofs.lemmas.Bool.{eq-eqb}
use Rattle.sg_model.specs.Lists.{first_some}
use Rattle.sg_model.specs.Shape.{role_at}
use Rattle.sg_protocol.specs.Acting.{started, rows_of_start, answer_start}
use Rattle.sg_protocol.specs.Calls.{Answer, StartFault, Start, Started, Happened, NotStarted, UnknownGraph, BadCast, UnknownPeer, Joined, CacheFull, SessionsFull}
use Rattle.sg_protocol.specs.Frame.{Cast}
use Rattle.sg_protocol.specs.IsSchedule.{IsProgram}
use Rattle.sg_protocol.specs.Keyring.{Program, may_return}
use Rattle.sg_protocol.specs.Node.{Node, starter, program_for, is_cast, stranger, has_joined}
use Rattle.sg_protocol.specs.NodeStates.{NodeState, RepresentsNode, RepresentsPast, IsReachableLive, begun, is_spent, unless_spent, state_after}
use Rattle.sg_protocol.specs.Notes.{Notes, no_notes, notes_of_start}
use Rattle.sg_protocol.specs.Past.{Past, node_of}
use Rattle.sg_protocol.specs.Ranges.{IsCast}
use Rattle.sg_protocol.specs.Representation.{nothing_kept}
use Rattle.sg_protocol.specs.Texts.{real, session_id, session_text_of}
use Rattle.sg_protocol.specs.Verdict.{row}
use Rattle.sg_protocol.specs.Reachable.{IsReachableBefore}
use Rattle.sg_protocol.proofs.Reachable.{states_are_reachable}
use Rattle.sg_protocol.proofs.RealHash.{real_hash}
use Rattle.sg_role.specs.Accepting.{goes_on}
use Rattle.sg_role.specs.Sending.{with_notes}
use Rattle.sg_role.specs.Model.{RoleState}
use Rattle.sg_protocol.specs.Graph.{Graph, shape}
use Rattle.sg_protocol.specs.Session.{Session, new_session}
use Rattle.sg_protocol.specs.Named.{graph_of_call}
use Rattle.sg_receipt.specs.declared.answer.Happened.{Happened as Begun}
use Rattle.sg_receipt.specs.declared.refusal.StartRefusal.{StartRefusal}
use Rattle.sg_receipt.specs.Answers.{answer_of_start, graph_named, graph_of_start}
use Rattle.sg_node.specs.Answers.{GoesOn, may_take_memory}
use Rattle.sg_node.specs.declared.join.Obstacle.{Obstacle}
use Rattle.sg_node.specs.declared.join.Obstacle.TheVariants as Why
use Rattle.sg_node.specs.declared.node.Node.TheInside.{Inside}
use Rattle.sg_node.specs.declared.sessions.Live.TheVariants.{AtTurn}
use Rattle.sg_receipt.specs.Refusals.{start_refusal}
use Rattle.sg_node.specs.Joining.{obstacle_to, start_refusal_for}
use Rattle.sg_node.specs.Slots.{held_in}
use Rattle.sg_node.specs.Invariant.{IsSlot, HoldsNode, node_state}
use Rattle.sg_node.proofs.Acts.{with_none}
use Rattle.sg_node.proofs.Going.{all_reachable, goes_on as past_goes_on}
use Rattle.sg_node.proofs.Joined.{as_many, held_more, slots_more, rows_of_obstacles, start_goes_on}
use Rattle.sg_node.proofs.Memory.{started_may}

module _ (m : Node) (c : Cast) where
  abbrev under : Option Program → Answer
  under o = option_map_or (λ p. started (session_id real c) p.role (first_some (rows_of_start m p (session_id real c) c))) o (NotStarted UnknownGraph)

  pub no_starter : starter m.programs c.graph ≡ None → answer_start real m c ≡ NotStarted UnknownGraph
  no_starter e = ap under e

  module _ (p : Program) (e : starter m.programs c.graph ≡ Some p) where
    abbrev by_test : Bool → Option (List ℕ) → Answer
    by_test b o = started (session_id real c) p.role (first_some (
        row (not b) BadCast ∷ option_map UnknownPeer o
        ∷ row (has_joined m.joins (session_id real c) p.role) Joined ∷ row (nat_le 65536 (length m.joins)) CacheFull ∷ row (nat_le 4096 (length m.live)) SessionsFull ∷ []
        ))

    by_rows : answer_start real m c ≡ by_test (is_cast m.keys p.graph c p.role) (stranger m.keys c)
    by_rows = ap under e

    pub bad_cast : is_cast m.keys p.graph c p.role ≡ false → answer_start real m c ≡ NotStarted BadCast
    bad_cast f = by_rows ∙ ap (λ b. by_test b (stranger m.keys c)) f

    pub no_key : is_cast m.keys p.graph c p.role ≡ true → (name : List ℕ) → stranger m.keys c ≡ Some name → answer_start real m c ≡ NotStarted (UnknownPeer name)
    no_key f name g = by_rows ∙ ap (λ b. by_test b (stranger m.keys c)) f ∙ ap (by_test true) g

    by_obstacles : is_cast m.keys p.graph c p.role ≡ true → stranger m.keys c ≡ None →
        answer_start real m c ≡ started (session_id real c) p.role (option_map (λ o. start_refusal (start_refusal_for o)) (obstacle_to m.joins (length m.live) (session_id real c) p.role))
    by_obstacles f g = by_rows ∙ ap (λ b. by_test b (stranger m.keys c)) f ∙ ap (by_test true) g
        ∙ ap (started (session_id real c) p.role) (rows_of_obstacles (has_joined m.joins (session_id real c) p.role) (nat_le 65536 (length m.joins)) (nat_le 4096 (length m.live)))

    -- once the graph, the cast and the keys are right, memory may be taken
    pub start_may : is_cast m.keys p.graph c p.role ≡ true → stranger m.keys c ≡ None → may_take_memory (answer_start real m c) ≡ true
    start_may f g = ap may_take_memory (by_obstacles f g) ∙ started_may (session_id real c) p.role (obstacle_to m.joins (length m.live) (session_id real c) p.role)

-- a start that is refused before anything is noted leaves the node and the notes
pub refused_start : (n : Inside) → HoldsNode n → {here : NodeState} → node_state n ≡ here → (c : Cast) → IsCast c → (fault : StartFault) → notes_of_start c (NotStarted fault) ≡ no_notes → (before : Notes) → (past : Past) → RepresentsPast here past
    → answer_start real (node_of past) c ≡ NotStarted fault → GoesOn here here (Start c) past × (before ≡ with_notes before (notes_of_start c (answer_start real (node_of past) c)))
refused_start n h {here} is c good fault quiet before past st a = (
  past_goes_on here here (Start c) past (subst (λ (z : NodeState). AllByRecursion (IsProgram real) z.programs) is h.programs) (subst (λ (z : NodeState). AllByRecursion (IsReachableLive real z.programs) z.live) is (all_reachable n h)) good st
      (ap (state_after here (Start c)) (sym a)),
  with_none before ∙ ap (with_notes before) (sym (ap (notes_of_start c) a ∙ quiet)),
)

-- the graph of a start is that of its program
pub start_graph : (n : Node) (c : Cast) (p : Program) → starter n.programs c.graph ≡ Some p → graph_of_call real n (Start c) ≡ Some p.graph
start_graph n c p e = ap (λ (o : Option Program). option_map (λ (x : Program × Session). x.0.graph) (option_map (λ (p : Program). (p, new_session (session_id real c) c p.role)) o)) e

-- a start by this graph, which is that of its call
pub same_graph : {E : Type 0} (r : Result (Result Begun StartRefusal) E) (g h : Option Graph) → IfOk r (λ r. graph_of_start r ≡ graph_named (answer_of_start r) g) → g ≡ h → IfOk r (λ r. graph_of_start r ≡ graph_named (answer_of_start r) h)
same_graph (Ok r) g h k e = k ∙ ap (graph_named (answer_of_start r)) e
same_graph (Err y) g h k e = tt

-- what is noted of a start that comes to the test of the joins
abbrev pub text_noted : Cast → Notes
text_noted c = record { made = []; found = []; hashed = session_text_of c ∷ [] }

pub with_text : (n : Notes) (c : Cast) → record n { hashed = n.hashed ++ session_text_of c ∷ [] } ≡ with_notes n (text_noted c)
with_text n c = λ i. record { made = sym (append-nil n.made) i; found = sym (append-nil n.found) i; hashed = n.hashed ++ session_text_of c ∷ [] }

module _ (n : Inside) (m : Node) (st : RepresentsNode (node_state n) m) (c : Cast) (p : Program)
    (e : starter n.programs.now c.graph ≡ Some p) (f : is_cast n.keys p.graph c p.role ≡ true) (g : stranger n.keys c ≡ None) where
  pub by_state : answer_start real m c ≡ started (session_id real c) p.role (option_map (λ o. start_refusal (start_refusal_for o)) (obstacle_to n.joins.pairs (length (held_in n.sessions.slots)) (session_id real c) p.role))
  by_state =
      by_obstacles m c p (subst (λ ps. starter ps c.graph ≡ Some p) st.programs e) (subst (λ k. is_cast k p.graph c p.role ≡ true) st.keys f) (subst (λ k. stranger k c ≡ None) st.keys g)
      ∙ ap (λ js. started (session_id real c) p.role (option_map (λ o. start_refusal (start_refusal_for o)) (obstacle_to js (length m.live) (session_id real c) p.role))) (sym st.joins)
      ∙ ap (λ k. started (session_id real c) p.role (option_map (λ o. start_refusal (start_refusal_for o)) (obstacle_to n.joins.pairs k (session_id real c) p.role))) (sym (as_many m.programs (held_in n.sessions.slots) m.live st.live))

  -- an obstacle stands in the way
  pub hindered : (o : Obstacle) → obstacle_to n.joins.pairs (length (held_in n.sessions.slots)) (session_id real c) p.role ≡ Some o →
      (answer_start real m c ≡ NotStarted (start_refusal (start_refusal_for o))) × (notes_of_start c (answer_start real m c) ≡ text_noted c) × (state_after (node_state n) (Start c) (answer_start real m c) ≡ node_state n)
  hindered o q = go o (by_state ∙ ap (λ o. started (session_id real c) p.role (option_map (λ o. start_refusal (start_refusal_for o)) o)) q)
    where
      go : (o : Obstacle) → answer_start real m c ≡ started (session_id real c) p.role (Some (start_refusal (start_refusal_for o))) →
          (answer_start real m c ≡ NotStarted (start_refusal (start_refusal_for o))) × (notes_of_start c (answer_start real m c) ≡ text_noted c) × (state_after (node_state n) (Start c) (answer_start real m c) ≡ node_state n)
      go Why.Joined a = (a, ap (notes_of_start c) a, ap (state_after (node_state n) (Start c)) a)
      go Why.Cache a = (a, ap (notes_of_start c) a, ap (state_after (node_state n) (Start c)) a)
      go Why.Sessions a = (a, ap (notes_of_start c) a, ap (state_after (node_state n) (Start c)) a)

  -- nothing does
  pub free : obstacle_to n.joins.pairs (length (held_in n.sessions.slots)) (session_id real c) p.role ≡ None → answer_start real m c ≡ Happened (Started (session_id real c) p.role)
  free q = by_state ∙ ap (λ o. started (session_id real c) p.role (option_map (λ o. start_refusal (start_refusal_for o)) o)) q

-- ---- what begins

-- the state of a session that begins
abbrev pub first_state : Program → Cast → RoleState
first_state p c = record { program = p; held = record { sid = session_id real c; cast = c; role = p.role; kept = nothing_kept p.graph } }

pub begun_held : (ps : List Program) (c : Cast) (p : Program) → IsProgram real p → program_for ps c.graph p.role ≡ Some p → role_at (shape p.graph) 0 ≡ p.role → begun ps (session_id real c) c p.role ≡ (first_state p c).held ∷ []
begun_held ps c p ip e r =
    let s : RoleState = first_state p c in
    let spent : is_spent p s.held ≡ false = ap (λ b. if b then not (goes_on p.graph 0) else not (option_map_or (may_return p) ((s.held).kept).origin true)) (eq-eqb (role_at (shape p.graph) 0) p.role r) ∙ ap not (start_goes_on p.graph ip.accepted) in
    ap (λ (o : Option Program). option_map_or (λ p. unless_spent p (record { sid = session_id real c; cast = c; role = s.held.role; kept = nothing_kept p.graph })) o []) e
    ∙ ap (λ b. if b then [] else s.held ∷ []) spent

module _ (n : Inside) (m : Node) (c : Cast) (p : Program) (ip : IsProgram real p) (e : program_for n.programs.now c.graph p.role ≡ Some p) (r : role_at (shape p.graph) 0 ≡ p.role) (a : answer_start real m c ≡ Happened (Started (session_id real c) p.role)) where
  pub start_state : record { keys = n.keys; programs = n.programs.now; joins = n.joins.pairs ++ (session_id real c, p.role) ∷ []; live = held_in (n.sessions.slots ++ ((session_id real c, p.role), Some (AtTurn (first_state p c))) ∷ []) } ≡ state_after (node_state n) (Start c) (answer_start real m c)
  start_state =
      ap (λ hs. record { keys = n.keys; programs = n.programs.now; joins = n.joins.pairs ++ (session_id real c, p.role) ∷ []; live = hs })
      (held_more n.sessions.slots (session_id real c, p.role) (Some (AtTurn (first_state p c))) ∙ ap (λ z. held_in n.sessions.slots ++ z) (sym (begun_held n.programs.now c p ip e r)))
      ∙ ap (state_after (node_state n) (Start c)) (sym a)

-- the table with it
module _ (n : Inside) (h : HoldsNode n) (c : Cast) (p : Program) (e : program_for n.programs.now c.graph p.role ≡ Some p) (r : role_at (shape p.graph) 0 ≡ p.role) (b : IsReachableBefore real p (first_state p c).held) where
  pub start_slots : AllByRecursion (IsSlot n.programs.now (n.joins.pairs ++ (session_id real c, p.role) ∷ [])) (n.sessions.slots ++ ((session_id real c, p.role), Some (AtTurn (first_state p c))) ∷ [])
  start_slots = slots_more n.programs.now n.joins.pairs (session_id real c, p.role) n.sessions.slots (Some (AtTurn (first_state p c))) h.slots
      (record { sid = refl; role = refl; program = e; reachable = (states_are_reachable real real_hash).begins p (first_state p c).held b refl r })
