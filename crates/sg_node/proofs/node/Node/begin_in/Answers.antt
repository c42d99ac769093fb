use Rattle.std.proofs.Common.{◌≡◌, ◌++◌, [], ◌∷◌, length, map, true, None, Some, sym, ◌∙◌, ap, subst, Contains}
use Rattle.std.specs.List.{AllByRecursion}
use Rattle.sg_model.specs.Shape.{role_at}
use Rattle.sg_protocol.specs.Acting.{answer_start}
use Rattle.sg_protocol.specs.Reachable.{IsReachableBefore}
use Rattle.sg_protocol.specs.Calls.{Start, Started, Happened, NotStarted}
use Rattle.sg_protocol.specs.Graph.{shape}
use Rattle.sg_protocol.specs.Node.{starter, program_for, is_cast, stranger}
use Rattle.sg_protocol.specs.NodeStates.{NodeState, RepresentsNode, state_after}
use Rattle.sg_protocol.specs.Notes.{notes_of_start}
use Rattle.sg_protocol.specs.Texts.{real, session_id}
use Rattle.sg_role.specs.Model.{RoleState}
use Rattle.sg_role.specs.Sending.{with_notes}
use Rattle.sg_receipt.specs.Refusals.{start_refusal}
use Rattle.sg_node.specs.Joining.{obstacle_to}
use Rattle.sg_node.specs.Slots.{Slot, held_in}
use Rattle.sg_node.specs.Invariant.{IsSlot}
use Rattle.sg_node.specs.declared.sessions.Live.TheVariants.{AtTurn}
use Rattle.sg_node.proofs.Joined.{free_by, no_slot}
use Rattle.sg_node.proofs.Starts.{first_state, hindered, free, start_state, start_slots, with_text}
use Rattle.sg_node.proofs.node.Node.begin_in.Goals as goal

pub returns-in-Some-clause-answer : goal.returns-in-Some-clause-answer
returns-in-Some-clause-answer c = λ m st. (hindered c.self.inside m (subst (λ (z : NodeState). RepresentsNode z m) (sym c.self.view_is) st) c.args.cast c.args.program.now (subst (λ (z : NodeState). starter z.programs c.args.cast.graph ≡ Some c.args.program.now) (sym c.self.view_is) c.requires.starts) (subst (λ (z : NodeState). is_cast z.keys c.args.program.now.graph c.args.cast c.args.program.now.role ≡ true) (sym c.self.view_is) c.requires.cast) (subst (λ (z : NodeState). stranger z.keys c.args.cast ≡ None) (sym c.self.view_is) c.requires.covered) c.in-Some.obstacle (ap (λ z. obstacle_to c.self.inside.joins.pairs (length (held_in c.self.inside.sessions.slots)) z c.args.program.now.role) (sym c.session_id-sid.ensures) ∙ ap (λ z. obstacle_to c.self.inside.joins.pairs (length (held_in c.self.inside.sessions.slots)) c.session_id-sid.result z) (sym c.role-role.ensures.role) ∙ sym c.first_obstacle.ensures ∙ c.in-Some.is)).0 ∙ ap (λ r. NotStarted (start_refusal r)) (sym c.refusal_of.ensures)

pub returns-in-Some-clause-state : goal.returns-in-Some-clause-state
returns-in-Some-clause-state c = λ m st. subst (λ (z : NodeState). z ≡ state_after z (Start c.args.cast) (answer_start real m c.args.cast)) c.self.view_is (sym (hindered c.self.inside m (subst (λ (z : NodeState). RepresentsNode z m) (sym c.self.view_is) st) c.args.cast c.args.program.now (subst (λ (z : NodeState). starter z.programs c.args.cast.graph ≡ Some c.args.program.now) (sym c.self.view_is) c.requires.starts) (subst (λ (z : NodeState). is_cast z.keys c.args.program.now.graph c.args.cast c.args.program.now.role ≡ true) (sym c.self.view_is) c.requires.cast) (subst (λ (z : NodeState). stranger z.keys c.args.cast ≡ None) (sym c.self.view_is) c.requires.covered) c.in-Some.obstacle (ap (λ z. obstacle_to c.self.inside.joins.pairs (length (held_in c.self.inside.sessions.slots)) z c.args.program.now.role) (sym c.session_id-sid.ensures) ∙ ap (λ z. obstacle_to c.self.inside.joins.pairs (length (held_in c.self.inside.sessions.slots)) c.session_id-sid.result z) (sym c.role-role.ensures.role) ∙ sym c.first_obstacle.ensures ∙ c.in-Some.is)).2)

pub begin_session-requires-clause-absent : goal.begin_session-requires-clause-absent
begin_session-requires-clause-absent c = subst (λ (s : RoleState). ¬ Contains c.make_room.new.joins.pairs (s.held.sid, s.held.role)) (sym c.in_ok-before.ensures) (subst (λ js. ¬ Contains js (session_id real c.args.cast, c.args.program.now.role)) (sym c.make_room.ensures.joins) (free_by c.self.inside.joins.pairs (length (held_in c.self.inside.sessions.slots)) (session_id real c.args.cast) c.args.program.now.role (ap (λ z. obstacle_to c.self.inside.joins.pairs (length (held_in c.self.inside.sessions.slots)) z c.args.program.now.role) (sym c.session_id-sid.ensures) ∙ ap (λ z. obstacle_to c.self.inside.joins.pairs (length (held_in c.self.inside.sessions.slots)) c.session_id-sid.result z) (sym c.role-role.ensures.role) ∙ sym c.first_obstacle.ensures ∙ c.in_default.is)).0)

pub begin_session-requires-clause-free : goal.begin_session-requires-clause-free
begin_session-requires-clause-free c = subst (λ (s : RoleState). ¬ Contains (map (λ (s : Slot). s.0) c.make_room.new.sessions.slots) (s.held.sid, s.held.role)) (sym c.in_ok-before.ensures) (subst (λ ss. ¬ Contains (map (λ (s : Slot). s.0) ss) (session_id real c.args.cast, c.args.program.now.role)) (sym c.make_room.ensures.sessions) (no_slot c.self.inside.programs.now c.self.inside.joins.pairs (session_id real c.args.cast, c.args.program.now.role) c.self.inside.sessions.slots c.self.invariant.slots ((free_by c.self.inside.joins.pairs (length (held_in c.self.inside.sessions.slots)) (session_id real c.args.cast) c.args.program.now.role (ap (λ z. obstacle_to c.self.inside.joins.pairs (length (held_in c.self.inside.sessions.slots)) z c.args.program.now.role) (sym c.session_id-sid.ensures) ∙ ap (λ z. obstacle_to c.self.inside.joins.pairs (length (held_in c.self.inside.sessions.slots)) c.session_id-sid.result z) (sym c.role-role.ensures.role) ∙ sym c.first_obstacle.ensures ∙ c.in_default.is)).0)))

pub begin_session-requires-clause-starts : goal.begin_session-requires-clause-starts
begin_session-requires-clause-starts c = subst (λ (s : RoleState). role_at (shape s.program.graph) 0 ≡ s.held.role) (sym c.in_ok-before.ensures) c.requires.node

pub invariant_of-self-2 : goal.invariant_of-self-2
invariant_of-self-2 c = record {
  programs = c.self.invariant.programs;
  slots = subst (λ js. AllByRecursion (IsSlot c.self.inside.programs.now js) c.begin_session.new.sessions.slots) (sym (c.begin_session.ensures.joins ∙ ap (λ z. z ++ (c.in_ok-before.before.held.sid, c.in_ok-before.before.held.role) ∷ []) c.make_room.ensures.joins ∙ ap (λ (s : RoleState). c.self.inside.joins.pairs ++ (s.held.sid, s.held.role) ∷ []) c.in_ok-before.ensures)) (subst (AllByRecursion (IsSlot c.self.inside.programs.now (c.self.inside.joins.pairs ++ (session_id real c.args.cast, c.args.program.now.role) ∷ []))) (sym (c.begin_session.ensures.slots ∙ ap (λ z. z ++ ((c.in_ok-before.before.held.sid, c.in_ok-before.before.held.role), Some (AtTurn c.in_ok-before.before)) ∷ []) c.make_room.ensures.sessions ∙ ap (λ (s : RoleState). c.self.inside.sessions.slots ++ ((s.held.sid, s.held.role), Some (AtTurn s)) ∷ []) c.in_ok-before.ensures)) (start_slots c.self.inside c.self.invariant c.args.cast c.args.program.now (subst (λ (z : NodeState). program_for z.programs c.args.cast.graph c.args.program.now.role ≡ Some c.args.program.now) (sym c.self.view_is) c.requires.first) c.requires.node (subst (λ (s : RoleState). IsReachableBefore real s.program s.held) (c.before-2.view_is ∙ c.in_ok-before.ensures) c.before-2.invariant.reachable)));
}

pub returns-clause-answer : goal.returns-clause-answer
returns-clause-answer c = λ m st. (free c.self.inside m (subst (λ (z : NodeState). RepresentsNode z m) (sym c.self.view_is) st) c.args.cast c.args.program.now (subst (λ (z : NodeState). starter z.programs c.args.cast.graph ≡ Some c.args.program.now) (sym c.self.view_is) c.requires.starts) (subst (λ (z : NodeState). is_cast z.keys c.args.program.now.graph c.args.cast c.args.program.now.role ≡ true) (sym c.self.view_is) c.requires.cast) (subst (λ (z : NodeState). stranger z.keys c.args.cast ≡ None) (sym c.self.view_is) c.requires.covered) (ap (λ z. obstacle_to c.self.inside.joins.pairs (length (held_in c.self.inside.sessions.slots)) z c.args.program.now.role) (sym c.session_id-sid.ensures) ∙ ap (λ z. obstacle_to c.self.inside.joins.pairs (length (held_in c.self.inside.sessions.slots)) c.session_id-sid.result z) (sym c.role-role.ensures.role) ∙ sym c.first_obstacle.ensures ∙ c.in_default.is)) ∙ ap (λ z. Happened (Started z c.args.program.now.role)) (sym c.session_id-sid.ensures) ∙ ap (λ z. Happened (Started c.session_id-sid.result z)) (sym c.role-role.ensures.role)

pub returns-clause-state : goal.returns-clause-state
returns-clause-state c = λ m st.
    let js = (c.begin_session.ensures.joins ∙ ap (λ z. z ++ (c.in_ok-before.before.held.sid, c.in_ok-before.before.held.role) ∷ []) c.make_room.ensures.joins ∙ ap (λ (s : RoleState). c.self.inside.joins.pairs ++ (s.held.sid, s.held.role) ∷ []) c.in_ok-before.ensures) in
    let ss = (c.begin_session.ensures.slots ∙ ap (λ z. z ++ ((c.in_ok-before.before.held.sid, c.in_ok-before.before.held.role), Some (AtTurn c.in_ok-before.before)) ∷ []) c.make_room.ensures.sessions ∙ ap (λ (s : RoleState). c.self.inside.sessions.slots ++ ((s.held.sid, s.held.role), Some (AtTurn s)) ∷ []) c.in_ok-before.ensures) in
    let new : NodeState = record { keys = c.self.inside.keys; programs = c.self.inside.programs.now; joins = c.begin_session.new.joins.pairs; live = held_in c.begin_session.new.sessions.slots } in
    let q : new ≡ record { keys = c.self.inside.keys; programs = c.self.inside.programs.now; joins = c.self.inside.joins.pairs ++ (session_id real c.args.cast, c.args.program.now.role) ∷ []; live = held_in (c.self.inside.sessions.slots ++ ((session_id real c.args.cast, c.args.program.now.role), Some (AtTurn (first_state c.args.program.now c.args.cast))) ∷ []) } = λ i. record { keys = c.self.inside.keys; programs = c.self.inside.programs.now; joins = js i; live = held_in (ss i) } in
    subst (λ (z : NodeState). new ≡ state_after z (Start c.args.cast) (answer_start real m c.args.cast)) c.self.view_is (q ∙ start_state c.self.inside m c.args.cast c.args.program.now c.role-role.ensures.program (subst (λ (z : NodeState). program_for z.programs c.args.cast.graph c.args.program.now.role ≡ Some c.args.program.now) (sym c.self.view_is) c.requires.first) c.requires.node (free c.self.inside m (subst (λ (z : NodeState). RepresentsNode z m) (sym c.self.view_is) st) c.args.cast c.args.program.now (subst (λ (z : NodeState). starter z.programs c.args.cast.graph ≡ Some c.args.program.now) (sym c.self.view_is) c.requires.starts) (subst (λ (z : NodeState). is_cast z.keys c.args.program.now.graph c.args.cast c.args.program.now.role ≡ true) (sym c.self.view_is) c.requires.cast) (subst (λ (z : NodeState). stranger z.keys c.args.cast ≡ None) (sym c.self.view_is) c.requires.covered) (ap (λ z. obstacle_to c.self.inside.joins.pairs (length (held_in c.self.inside.sessions.slots)) z c.args.program.now.role) (sym c.session_id-sid.ensures) ∙ ap (λ z. obstacle_to c.self.inside.joins.pairs (length (held_in c.self.inside.sessions.slots)) c.session_id-sid.result z) (sym c.role-role.ensures.role) ∙ sym c.first_obstacle.ensures ∙ c.in_default.is)))

pub returns-clause-notes : goal.returns-clause-notes
returns-clause-notes c = λ m st.
    let began : answer_start real m c.args.cast ≡ Happened (Started (session_id real c.args.cast) c.args.program.now.role) = (free c.self.inside m (subst (λ (z : NodeState). RepresentsNode z m) (sym c.self.view_is) st) c.args.cast c.args.program.now (subst (λ (z : NodeState). starter z.programs c.args.cast.graph ≡ Some c.args.program.now) (sym c.self.view_is) c.requires.starts) (subst (λ (z : NodeState). is_cast z.keys c.args.program.now.graph c.args.cast c.args.program.now.role ≡ true) (sym c.self.view_is) c.requires.cast) (subst (λ (z : NodeState). stranger z.keys c.args.cast ≡ None) (sym c.self.view_is) c.requires.covered) (ap (λ z. obstacle_to c.self.inside.joins.pairs (length (held_in c.self.inside.sessions.slots)) z c.args.program.now.role) (sym c.session_id-sid.ensures) ∙ ap (λ z. obstacle_to c.self.inside.joins.pairs (length (held_in c.self.inside.sessions.slots)) c.session_id-sid.result z) (sym c.role-role.ensures.role) ∙ sym c.first_obstacle.ensures ∙ c.in_default.is)) in
    c.in_ok-note_session-2.ensures.ok ∙ with_text c.args.notes.now c.args.cast ∙ ap (λ a. with_notes c.args.notes.now (notes_of_start c.args.cast a)) (sym began)
