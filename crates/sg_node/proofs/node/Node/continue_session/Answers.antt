use Rattle.std.proofs.Common.{◌≡◌, true, is_ok, Some, None, Err, refl, sym, ◌∙◌, ap, subst}
use Rattle.std.specs.Prelude.{slice_get}
use Rattle.std.specs.List.{AllByRecursion}
use Rattle.std.proofs.lemmas.Option.{slice_get_within}
use Rattle.sg_model.proofs.Small.{clash}
use Rattle.sg_protocol.specs.Frame.{Frame}
use Rattle.sg_protocol.specs.Keyring.{Program}
use Rattle.sg_protocol.specs.Notes.{no_notes}
use Rattle.sg_protocol.specs.NodeStates.{NodeState, RepresentsNode}
use Rattle.sg_protocol.specs.Spelling.{SpellsFrame}
use Rattle.sg_role.specs.Model.{RoleState}
use Rattle.sg_role.specs.declared.fault.Refusal.TheVariants as role
use Rattle.sg_receipt.specs.declared.refusal.DeliveryRefusal.TheVariants as deliveries
use Rattle.sg_node.specs.Invariant.{IsSlot}
use Rattle.sg_node.specs.declared.sessions.Live.TheVariants.{Waiting}
use Rattle.sg_node.proofs.Acts.{with_none}
use Rattle.sg_node.proofs.Indices.{some_none}
use Rattle.sg_node.proofs.Receipts.{in_err}
use Rattle.sg_node.proofs.Takings.{refused_at_once}
use Rattle.sg_node.proofs.Continuing.{AcceptedBy, RefusedBy, accepted_by, refused_by, index_for, first_for, unknown, at_its_turn, version_is, may_take, takes, refuses, next_slots}
use Rattle.sg_node.proofs.node.Node.continue_session.Goals as goal

-- ---- no session is there for the frame

pub returns-in_default-clause-takes : goal.returns-in_default-clause-takes
returns-in_default-clause-takes c =
    let f = c.args.read.now.frame in
    let e = index_for c.frame-frame.result.now f c.self.inside.sessions.slots None c.frame-frame.ensures.frame (sym c.in_default.is ∙ c.find_for.ensures) in
    refused_at_once deliveries.UnknownSession no_notes c.self.view_is (λ g. refl) (with_none c.args.notes.now) (unknown c.self.inside c.self.invariant f c.requires.continues e)

-- ---- its session is at its turn

pub returns-in-Some-AtTurn-clause-takes : goal.returns-in-Some-AtTurn-clause-takes
returns-in-Some-AtTurn-clause-takes c =
    let f = c.args.read.now.frame in
    let e = index_for c.frame-frame.result.now f c.self.inside.sessions.slots (Some c.in-Some.index) c.frame-frame.ensures.frame c.in-Some.ensures in
    let there = sym c.in-Some-AtTurn.ensures ∙ ap (λ z. Some z) c.in-Some-AtTurn.field-0-is in
    refused_at_once deliveries.NotWaiting no_notes c.self.view_is (λ g. refl) (with_none c.args.notes.now) (at_its_turn c.self.inside c.self.invariant f c.in-Some.index _ e there c.requires.continues)

-- ---- its session waits

pub unreachable-requires : goal.unreachable-requires
unreachable-requires c =
    let f = c.args.read.now.frame in
    let e = index_for c.frame-frame.result.now f c.self.inside.sessions.slots (Some c.in-Some.index) c.frame-frame.ensures.frame c.in-Some.ensures in
    some_none (first_for c.self.inside c.self.invariant f c.in-Some.index e).live (sym (first_for c.self.inside c.self.invariant f c.in-Some.index e).there ∙ sym c.in-None.ensures)

pub examine-requires-clause-version : goal.examine-requires-clause-version
examine-requires-clause-version c =
    let f = c.args.read.now.frame in
    let e = index_for c.frame-frame.result.now f c.self.inside.sessions.slots (Some c.in-Some.index) c.frame-frame.ensures.frame c.in-Some.ensures in
    let there = sym c.in-Some-Waiting.ensures ∙ ap (λ z. Some z) c.in-Some-Waiting.field-0-is in
    subst (λ (z : Frame). z.version ≡ ((c.before-kept.result.now.held).cast).version) (sym c.frame-frame.ensures.frame)
    (subst (λ (s : RoleState). f.version ≡ (s.held.cast).version) (sym c.before-kept.ensures.before) (version_is c.self.inside c.self.invariant f c.in-Some.index c.in-Some-Waiting.wait e there))

pub examine-requires-clause-spelled : goal.examine-requires-clause-spelled
examine-requires-clause-spelled c =
    subst (λ bs. SpellsFrame bs c.frame-frame.result.now) (sym c.bytes.ensures.bytes) (subst (λ (z : Frame). SpellsFrame c.args.read.now.bytes z) (sym c.frame-frame.ensures.frame) c.frame-frame.ensures.reading.spelled)

pub take-requires-clause-within : goal.take-requires-clause-within
take-requires-clause-within c =
    let f = c.args.read.now.frame in
    let e = index_for c.frame-frame.result.now f c.self.inside.sessions.slots (Some c.in-Some.index) c.frame-frame.ensures.frame c.in-Some.ensures in
    (first_for c.self.inside c.self.invariant f c.in-Some.index e).within

pub take-requires-clause-waits : goal.take-requires-clause-waits
take-requires-clause-waits c =
    let there = sym c.in-Some-Waiting.ensures ∙ ap (λ z. Some z) c.in-Some-Waiting.field-0-is in
    let is : c.before-kept.result.now ≡ record { program = c.in-Ok.accepted.program; held = c.in-Ok.accepted.before } = λ i. record { program = sym c.in-Ok.ensures.program i; held = sym c.in-Ok.ensures.before i } in
    there ∙ ap (λ (s : RoleState). Some (Waiting s)) (sym c.before-kept.ensures.before ∙ is)

pub take-requires-clause-view : goal.take-requires-clause-view
take-requires-clause-view c =
    slice_get_within c.in-Ok.accepted.program.views c.in-Ok.accepted.view _ (ap (λ (p : Program). slice_get p.views c.in-Ok.accepted.view) c.in-Ok.ensures.program ∙ c.in-Ok.ensures.view)

pub invariant_of-self : goal.invariant_of-self
invariant_of-self c =
    let f = c.args.read.now.frame in
    let e = index_for c.frame-frame.result.now f c.self.inside.sessions.slots (Some c.in-Some.index) c.frame-frame.ensures.frame c.in-Some.ensures in
    let there = sym c.in-Some-Waiting.ensures ∙ ap (λ z. Some z) c.in-Some-Waiting.field-0-is in
    let d : AcceptedBy c.self.inside.keys c.in-Some-Waiting.wait f c.in-Ok.accepted c.args.notes.now c.examine.new.notes = accepted_by c.before-kept.ensures.before c.frame-frame.ensures.frame
    c.in-Ok.ensures.accepted c.in-Ok.ensures.program c.in-Ok.ensures.before c.in-Ok.ensures.after c.in-Ok.ensures.event c.in-Ok.ensures.view (λ x b. c.in-Ok.ensures.notes x b (λ q. clash true refl (ap is_ok q))) in
    record {
      programs = c.self.invariant.programs;
      slots = subst (AllByRecursion (IsSlot c.self.inside.programs.now c.self.inside.joins.pairs)) (sym c.take.ensures.slots)
          (next_slots c.self.inside c.self.invariant f c.in-Some.index c.in-Some-Waiting.wait e there c.frame-frame.ensures.reading.spelled.is_frame c.in-Ok.accepted d);
    }

-- ---- and takes the frame

pub returns-in-Ok-clause-takes : goal.returns-in-Ok-clause-takes
returns-in-Ok-clause-takes c =
    let f = c.args.read.now.frame in
    let e = index_for c.frame-frame.result.now f c.self.inside.sessions.slots (Some c.in-Some.index) c.frame-frame.ensures.frame c.in-Some.ensures in
    let there = sym c.in-Some-Waiting.ensures ∙ ap (λ z. Some z) c.in-Some-Waiting.field-0-is in
    let d : AcceptedBy c.self.inside.keys c.in-Some-Waiting.wait f c.in-Ok.accepted c.args.notes.now c.examine.new.notes = accepted_by c.before-kept.ensures.before c.frame-frame.ensures.frame
    c.in-Ok.ensures.accepted c.in-Ok.ensures.program c.in-Ok.ensures.before c.in-Ok.ensures.after c.in-Ok.ensures.event c.in-Ok.ensures.view (λ x b. c.in-Ok.ensures.notes x b (λ q. clash true refl (ap is_ok q))) in
    takes c.self.inside c.self.invariant f c.in-Some.index c.in-Some-Waiting.wait e there c.frame-frame.ensures.reading.spelled.is_frame c.in-Ok.accepted d c.self.view_is c.requires.continues
    c.take.new.sessions.slots c.take.ensures.slots c.take.result c.take.ensures.receipt

-- ---- or refuses it

pub returns-in-Err-clause-takes : goal.returns-in-Err-clause-takes
returns-in-Err-clause-takes c =
    let f = c.args.read.now.frame in
    let e = index_for c.frame-frame.result.now f c.self.inside.sessions.slots (Some c.in-Some.index) c.frame-frame.ensures.frame c.in-Some.ensures in
    let there = sym c.in-Some-Waiting.ensures ∙ ap (λ z. Some z) c.in-Some-Waiting.field-0-is in
    let its : RefusedBy c.self.inside.keys c.before-kept.result.now c.frame-frame.result.now c.in-Err.refusal c.args.notes.now c.examine.new.notes = record {
      rows = c.in-Err.ensures.refused;
      notes = λ told x b. c.in-Err.ensures.notes x b (λ q. told (let z : Err c.in-Err.refusal ≡ Err role.OutOfMemory = q in cc));
      memory = λ q. c.in-Err.ensures.memory (ap Err q);
    } in
    let d : RefusedBy c.self.inside.keys c.in-Some-Waiting.wait f c.in-Err.refusal c.args.notes.now c.examine.new.notes = refused_by c.before-kept.ensures.before c.frame-frame.ensures.frame its in
    refuses c.self.inside c.self.invariant f c.in-Some.index c.in-Some-Waiting.wait e there c.self.view_is c.requires.continues d
    (c.graph-graph.ensures.graph ∙ ap (λ (p : Program). p.graph) c.program.ensures ∙ ap (λ (s : RoleState). s.program.graph) c.before-kept.ensures.before)
    c.refused.result c.refused.ensures.refused c.refused.ensures.refusal c.refused.ensures.graph

pub returns-in-Err-clause-early : goal.returns-in-Err-clause-early
returns-in-Err-clause-early c =
    let f = c.args.read.now.frame in
    let e = index_for c.frame-frame.result.now f c.self.inside.sessions.slots (Some c.in-Some.index) c.frame-frame.ensures.frame c.in-Some.ensures in
    let there = sym c.in-Some-Waiting.ensures ∙ ap (λ z. Some z) c.in-Some-Waiting.field-0-is in
    λ m st. in_err _ c.refused.result (may_take c.self.inside c.self.invariant f c.in-Some.index c.in-Some-Waiting.wait e there c.requires.continues m (subst (λ (z : NodeState). RepresentsNode z m) (sym c.self.view_is) st))
