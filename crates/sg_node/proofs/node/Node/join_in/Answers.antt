use Rattle.std.proofs.Common.{◌≡◌, ◌≢◌, ◌++◌, [], ◌∷◌, ◌<◌, Contains, length, map, true, is_ok, Err, refl, sym, ◌∙◌, ap, subst}
use Rattle.std.specs.Prelude.{slice_get}
use Rattle.std.specs.List.{AllByRecursion}
use Rattle.std.proofs.lemmas.Option.{slice_get_within}
use Rattle.sg_model.proofs.Small.{clash}
use Rattle.sg_model.specs.Shape.{role_at}
use Rattle.sg_protocol.specs.Frame.{Frame}
use Rattle.sg_protocol.specs.Graph.{shape}
use Rattle.sg_protocol.specs.Keyring.{Program}
use Rattle.sg_protocol.specs.Spelling.{SpellsFrame}
use Rattle.sg_protocol.specs.Texts.{real, session_id}
use Rattle.sg_role.specs.Model.{RoleState}
use Rattle.sg_role.specs.declared.fault.Refusal.TheVariants as role
use Rattle.sg_receipt.specs.declared.refusal.DeliveryRefusal.TheVariants as deliveries
use Rattle.sg_node.specs.Joining.{obstacle_to}
use Rattle.sg_node.specs.Slots.{Slot, held_in}
use Rattle.sg_node.specs.Invariant.{IsSlot}
use Rattle.sg_node.proofs.Starts.{first_state, with_text}
use Rattle.sg_node.proofs.Takings.{out_of_memory, refused_at_once}
use Rattle.sg_node.proofs.Continuing.{AcceptedBy, RefusedBy, accepted_by, refused_by}
use Rattle.sg_node.proofs.Entering.{Enters, EntersFreely, entering, freely, same_node, still_slots, first_text, other_session, hindered, no_graph, free_pair, no_slot_yet, its_graph, its_count, its_version, its_bound, not_starter, pair_joined, slot_joined, join_slots, takes, refuses}
use Rattle.sg_node.proofs.node.Node.join_in.Goals as goal

pub returns-then-not-is_session : goal.returns-then-not-is_session
returns-then-not-is_session c =
    let same = c.frame.view_is ∙ c.frame-frame.ensures.frame in
    record {
      takes = λ first e. refused_at_once deliveries.BadSession (first_text c.args.cast) refl (λ g. refl) (e ∙ with_text first c.args.cast)
          (other_session c.args.self.now c.args.read.now.frame c.args.cast c.requires.by.joins c.args.program.now c.requires.by.program c.requires.by.cast c.requires.by.covered
          (λ q. clash true refl (sym (c.if-not-is_session.ensures.1 (ap (λ (z : Frame). z.sid) same ∙ q ∙ sym c.requires.session)))));
    }

pub returns-in-Some : goal.returns-in-Some
returns-in-Some c =
    let k : Enters c.self.inside c.args.read.now.frame c.args.cast c.args.program.now = entering c.self.view_is c.self.invariant c.requires.by in
    let same = c.frame.view_is ∙ c.frame-frame.ensures.frame in
    let sid = subst (λ (z : Frame). z.sid ≡ session_id real c.args.cast) same (c.if-not-is_session.ensures.0 refl ∙ c.requires.session) in
    let why = ap (λ (z : Frame). obstacle_to c.self.inside.joins.pairs (length (held_in c.self.inside.sessions.slots)) z.sid z.receiver) (sym same) ∙ sym c.first_obstacle.ensures ∙ c.in-Some.is in
    record {
      takes = λ first e. refused_at_once c.refusal_of.result (first_text c.args.cast) c.self.view_is (no_graph c.refusal_of.result c.in-Some.obstacle c.refusal_of.ensures) (e ∙ with_text first c.args.cast)
          (λ m st. hindered k m st sid c.refusal_of.result c.in-Some.obstacle c.refusal_of.ensures why);
    }

pub make_room-requires : goal.make_room-requires
make_room-requires c =
    let k : EntersFreely c.self.inside c.args.read.now.frame c.args.cast c.args.program.now = freely (entering c.self.view_is c.self.invariant c.requires.by)
    _ (c.frame.view_is ∙ c.frame-frame.ensures.frame) c.args.sid (c.if-not-is_session.ensures.0 refl) c.requires.session c.first_obstacle.result c.first_obstacle.ensures c.in_default.is in
    (free_pair k.enters k.sid k.free).1

pub with_sid-requires-clause-graph : goal.with_sid-requires-clause-graph
with_sid-requires-clause-graph c =
    let k : Enters c.self.inside c.args.read.now.frame c.args.cast c.args.program.now = entering c.self.view_is c.self.invariant c.requires.by in
    its_graph k

pub with_sid-requires-clause-count : goal.with_sid-requires-clause-count
with_sid-requires-clause-count c =
    let k : Enters c.self.inside c.args.read.now.frame c.args.cast c.args.program.now = entering c.self.view_is c.self.invariant c.requires.by in
    its_count k

pub examine-requires-clause-version : goal.examine-requires-clause-version
examine-requires-clause-version c =
    let k : Enters c.self.inside c.args.read.now.frame c.args.cast c.args.program.now = entering c.self.view_is c.self.invariant c.requires.by in
    ap (λ (z : Frame). z.version) c.frame-frame.ensures.frame ∙ its_version k c.frame-frame.ensures.reading.spelled.is_frame ∙ ap (λ (s : RoleState). (s.held.cast).version) (sym c.in_ok-before.ensures)

pub examine-requires-clause-spelled : goal.examine-requires-clause-spelled
examine-requires-clause-spelled c =
    subst (λ bs. SpellsFrame bs c.frame-frame.result.now) (sym c.bytes.ensures.bytes) (subst (λ (z : Frame). SpellsFrame c.args.read.now.bytes z) (sym c.frame-frame.ensures.frame) c.frame-frame.ensures.reading.spelled)

pub join_session-requires : goal.join_session-requires
join_session-requires c =
    let k : EntersFreely c.self.inside c.args.read.now.frame c.args.cast c.args.program.now = freely (entering c.self.view_is c.self.invariant c.requires.by)
    _ (c.frame.view_is ∙ c.frame-frame.ensures.frame) c.args.sid (c.if-not-is_session.ensures.0 refl) c.requires.session c.first_obstacle.result c.first_obstacle.ensures c.in_default.is in
    let d : AcceptedBy c.self.inside.keys (first_state c.args.program.now c.args.cast) c.args.read.now.frame c.in-Ok.accepted c.args.notes.now c.examine.new.notes = accepted_by c.in_ok-before.ensures c.frame-frame.ensures.frame
    c.in-Ok.ensures.accepted c.in-Ok.ensures.program c.in-Ok.ensures.before c.in-Ok.ensures.after c.in-Ok.ensures.event c.in-Ok.ensures.view (λ x b. c.in-Ok.ensures.notes x b (λ q. clash true refl (ap is_ok q))) in
    let room : (0 < c.make_room.new.joins.spare) × (0 < c.make_room.new.sessions.spare) = c.in_ok-make_room.ensures.room in
    record {
      absent = subst (λ (s : RoleState). ¬ Contains c.make_room.new.joins.pairs (s.held.sid, s.held.role)) (sym c.in_ok-before.ensures)
          (subst (λ js. ¬ Contains js (session_id real c.args.cast, c.args.program.now.role)) (sym c.make_room.ensures.joins) (free_pair k.enters k.sid k.free).0);
      count = subst (λ js. length js < 65536) (sym c.make_room.ensures.joins) (free_pair k.enters k.sid k.free).1;
      room = room.0;
      slot = room.1;
      free = subst (λ (s : RoleState). ¬ Contains (map (λ (s : Slot). s.0) c.make_room.new.sessions.slots) (s.held.sid, s.held.role)) (sym c.in_ok-before.ensures)
          (subst (λ ss. ¬ Contains (map (λ (s : Slot). s.0) ss) (session_id real c.args.cast, c.args.program.now.role)) (sym c.make_room.ensures.sessions) (no_slot_yet k.enters k.sid k.free));
      role = subst (λ (s : RoleState). s.held.role < 16) (sym c.in_ok-before.ensures) (its_bound k.enters c.frame-frame.ensures.reading.spelled.is_frame);
      waits = subst (λ (s : RoleState). role_at (shape s.program.graph) 0 ≢ s.held.role) (sym c.in_ok-before.ensures) (not_starter k.enters k.sid c.frame-frame.ensures.reading.spelled.is_frame c.in-Ok.accepted d);
      origin = ap (λ (s : RoleState). (s.held.kept).origin) c.in_ok-before.ensures;
      accepted = c.in-Ok.ensures.before;
      view = slice_get_within c.in-Ok.accepted.program.views c.in-Ok.accepted.view _ (ap (λ (p : Program). slice_get p.views c.in-Ok.accepted.view) c.in-Ok.ensures.program ∙ c.in-Ok.ensures.view);
    }

pub invariant_of-self-in-Ok : goal.invariant_of-self-in-Ok
invariant_of-self-in-Ok c =
    let k : EntersFreely c.self.inside c.args.read.now.frame c.args.cast c.args.program.now = freely (entering c.self.view_is c.self.invariant c.requires.by)
    _ (c.frame.view_is ∙ c.frame-frame.ensures.frame) c.args.sid (c.if-not-is_session.ensures.0 refl) c.requires.session c.first_obstacle.result c.first_obstacle.ensures c.in_default.is in
    let d : AcceptedBy c.self.inside.keys (first_state c.args.program.now c.args.cast) c.args.read.now.frame c.in-Ok.accepted c.args.notes.now c.examine.new.notes = accepted_by c.in_ok-before.ensures c.frame-frame.ensures.frame
    c.in-Ok.ensures.accepted c.in-Ok.ensures.program c.in-Ok.ensures.before c.in-Ok.ensures.after c.in-Ok.ensures.event c.in-Ok.ensures.view (λ x b. c.in-Ok.ensures.notes x b (λ q. clash true refl (ap is_ok q))) in
    record {
      programs = c.self.invariant.programs;
      slots = subst (λ js. AllByRecursion (IsSlot c.self.inside.programs.now js) c.join_session.new.sessions.slots) (sym (pair_joined c.in_ok-before.ensures c.join_session.ensures.joins c.make_room.ensures.joins))
          (subst (AllByRecursion (IsSlot c.self.inside.programs.now (c.self.inside.joins.pairs ++ (session_id real c.args.cast, c.args.program.now.role) ∷ []))) (sym (slot_joined c.in_ok-before.ensures c.in-Ok.accepted c.join_session.ensures.slots c.make_room.ensures.sessions))
          (join_slots k.enters k.sid c.frame-frame.ensures.reading.spelled.is_frame c.in-Ok.accepted d));
    }

pub invariant_of-self : goal.invariant_of-self
invariant_of-self c = record { programs = c.self.invariant.programs; slots = still_slots c.self.inside c.self.invariant c.make_room.ensures.joins c.make_room.ensures.sessions }

pub invariant_of-self-in_err-before : goal.invariant_of-self-in_err-before
invariant_of-self-in_err-before c = record { programs = c.self.invariant.programs; slots = still_slots c.self.inside c.self.invariant c.make_room.ensures.joins c.make_room.ensures.sessions }

pub invariant_of-self-in-Err : goal.invariant_of-self-in-Err
invariant_of-self-in-Err c = record { programs = c.self.invariant.programs; slots = still_slots c.self.inside c.self.invariant c.make_room.ensures.joins c.make_room.ensures.sessions }

-- ---- memory runs out

pub returns-in_err-shared : goal.returns-in_err-shared
returns-in_err-shared c = record { takes = λ first e. out_of_memory _ c.from_residual.result c.from_residual.ensures.1 refl refl }

pub returns-in_err-make_room : goal.returns-in_err-make_room
returns-in_err-make_room c = record {
  takes = λ first e. out_of_memory _ c.from_residual-in_err-make_room.result c.from_residual-in_err-make_room.ensures.1 (same_node c.self.inside c.self.view_is c.make_room.ensures.joins c.make_room.ensures.sessions) refl;
}

pub returns-in_err-before : goal.returns-in_err-before
returns-in_err-before c = record {
  takes = λ first e. out_of_memory _ c.from_residual-in_err-before.result c.from_residual-in_err-before.ensures.1 (same_node c.self.inside c.self.view_is c.make_room.ensures.joins c.make_room.ensures.sessions) refl;
}

-- ---- the node takes the frame

pub returns-in-Ok : goal.returns-in-Ok
returns-in-Ok c =
    let k : EntersFreely c.self.inside c.args.read.now.frame c.args.cast c.args.program.now = freely (entering c.self.view_is c.self.invariant c.requires.by)
    _ (c.frame.view_is ∙ c.frame-frame.ensures.frame) c.args.sid (c.if-not-is_session.ensures.0 refl) c.requires.session c.first_obstacle.result c.first_obstacle.ensures c.in_default.is in
    let d : AcceptedBy c.self.inside.keys (first_state c.args.program.now c.args.cast) c.args.read.now.frame c.in-Ok.accepted c.args.notes.now c.examine.new.notes = accepted_by c.in_ok-before.ensures c.frame-frame.ensures.frame
    c.in-Ok.ensures.accepted c.in-Ok.ensures.program c.in-Ok.ensures.before c.in-Ok.ensures.after c.in-Ok.ensures.event c.in-Ok.ensures.view (λ x b. c.in-Ok.ensures.notes x b (λ q. clash true refl (ap is_ok q))) in
    record {
      takes = λ first e. takes k.enters k.sid c.frame-frame.ensures.reading.spelled.is_frame c.in-Ok.accepted d c.self.view_is k.free e _ (pair_joined c.in_ok-before.ensures c.join_session.ensures.joins c.make_room.ensures.joins) _ (slot_joined c.in_ok-before.ensures c.in-Ok.accepted c.join_session.ensures.slots c.make_room.ensures.sessions)
          c.in_ok-shared.shared (c.in_ok-shared.ensures ∙ ap (λ (z : Frame). z.join) (c.frame.view_is ∙ c.frame-frame.ensures.frame)) c.join_session.result c.join_session.ensures.receipt;
    }

-- ---- or refuses it

pub returns : goal.returns
returns c =
    let k : EntersFreely c.self.inside c.args.read.now.frame c.args.cast c.args.program.now = freely (entering c.self.view_is c.self.invariant c.requires.by)
    _ (c.frame.view_is ∙ c.frame-frame.ensures.frame) c.args.sid (c.if-not-is_session.ensures.0 refl) c.requires.session c.first_obstacle.result c.first_obstacle.ensures c.in_default.is in
    let its : RefusedBy c.self.inside.keys c.in_ok-before.before c.frame-frame.result.now c.in-Err.refusal c.args.notes.now c.examine.new.notes = record {
      rows = c.in-Err.ensures.refused;
      notes = λ told x b. c.in-Err.ensures.notes x b (λ q. told (let z : Err c.in-Err.refusal ≡ Err role.OutOfMemory = q in cc));
      memory = λ q. c.in-Err.ensures.memory (ap Err q);
    } in
    let d : RefusedBy c.self.inside.keys (first_state c.args.program.now c.args.cast) c.args.read.now.frame c.in-Err.refusal c.args.notes.now c.examine.new.notes = refused_by c.in_ok-before.ensures c.frame-frame.ensures.frame its in
    record {
      takes = λ first e. refuses k.enters k.sid c.self.view_is (same_node c.self.inside c.self.view_is c.make_room.ensures.joins c.make_room.ensures.sessions) k.free e d c.graph.ensures.graph
          c.refused.result c.refused.ensures.refused c.refused.ensures.refusal c.refused.ensures.graph;
    }
