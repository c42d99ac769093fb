use Rattle.std.proofs.Common.{rules, ◌≡◌, ◌<◌, Result, Err, List, length, All, refl, sym, ap, subst, ◌∙◌}
use Rattle.sg_model.specs.Values.{Opening}
use Rattle.sg_protocol.specs.Frame.{Item, Frame}
use Rattle.sg_protocol.specs.Graph.{Graph}
use Rattle.sg_role.specs.Accepting.{Acceptance}
use Rattle.sg_role.specs.declared.fault.Refusal.{Refusal as RefusalFault}
use Rattle.sg_role.specs.declared.fault.Refusal.TheVariants as refusal_fault
use Rattle.sg_role.specs.Looking.{KeepsNotes}
use Rattle.sg_role.specs.Model.{state_of}
use Rattle.sg_role.proofs.NextState.{own_time_small, roles_there, variables_there, turn_next}
use Rattle.sg_role.proofs.Noted.{keeps_found, keeps_same, keeps_twice}
use Rattle.sg_role.proofs.Stopped.{has_sender, not_memory, stops_at_tag, stops_at_view, stops_at_time, stops_at_items, stops_at_openings, stops_nowhere, all_noted}
use Rattle.sg_role.proofs.verdict.look.Goals as goal

pub returns-in_err-check_frame_tag-clause-noted : goal.returns-in_err-check_frame_tag-clause-noted
returns-in_err-check_frame_tag-clause-noted c = λ n.
    stops_at_tag c.args.keys.now c.args.kept.now.program.now (state_of c.args.kept.now).held c.args.frame.now c.args.notes.now c.check_frame_tag.new.notes c.in_err-check_frame_tag.field-0.0 (not_memory c.from_residual.result c.in_err-check_frame_tag.field-0.0 (search rules) n) c.in_err-check_frame_tag.ensures.wrong c.in_err-check_frame_tag.ensures.same

pub returns-in_err-view-clause-noted : goal.returns-in_err-view-clause-noted
returns-in_err-view-clause-noted c = λ n.
    stops_at_view c.args.keys.now c.args.kept.now.program.now (state_of c.args.kept.now).held c.args.frame.now c.args.notes.now c.check_frame_tag.new.notes c.in_ok-check_frame_tag.ensures.right c.in_ok-check_frame_tag.ensures.noted
    c.in_err-view.field-0.0 (not_memory c.from_residual-in_err-view.result c.in_err-view.field-0.0 (search rules) n) c.in_err-view.ensures.wrong

pub check_times-requires-clause-before : goal.check_times-requires-clause-before
check_times-requires-clause-before c = own_time_small c.args.kept.now.program.now (state_of c.args.kept.now).held c.requires.holds

pub returns-in_err-check_times-clause-noted : goal.returns-in_err-check_times-clause-noted
returns-in_err-check_times-clause-noted c = λ n.
    stops_at_time c.args.keys.now c.args.kept.now.program.now (state_of c.args.kept.now).held c.args.frame.now c.args.notes.now c.check_frame_tag.new.notes c.in_ok-check_frame_tag.ensures.right c.in_ok-check_frame_tag.ensures.noted
    c.in_ok-view.ensures.right c.as_slice-items.result.now (c.as_slice-items.ensures ∙ ap (λ (f : Frame). f.items) c.frame.view_is)
    c.in_err-check_times.field-0.0 (not_memory c.from_residual-in_err-check_times.result c.in_err-check_times.field-0.0 (search rules) n) c.in_err-check_times.ensures.wrong

pub check_items-requires-clause-roles : goal.check_items-requires-clause-roles
check_items-requires-clause-roles c =
    let p = c.args.kept.now.program.now in
    let h = (state_of c.args.kept.now).held in
    let f = c.args.frame.now in
    let shown : c.as_slice-items.result.now ≡ f.items = c.as_slice-items.ensures ∙ ap (λ (f : Frame). f.items) c.frame.view_is in
    subst (λ (is : List Item). All (λ (i : Item). i.role < length h.cast.names) is) (sym shown)
    (subst (λ m. All (λ (i : Item). i.role < m) f.items) (sym c.requires.holds.counted) (roles_there p c.graph-graph.ensures.program h refl f c.in_ok-view.ensures.right))

pub returns-in_err-commitments-clause-noted : goal.returns-in_err-commitments-clause-noted
returns-in_err-commitments-clause-noted c = λ n.
    stops_at_items c.args.keys.now c.args.kept.now.program.now (state_of c.args.kept.now).held c.args.frame.now c.args.notes.now c.check_frame_tag.new.notes c.in_ok-check_frame_tag.ensures.right c.in_ok-check_frame_tag.ensures.noted
    c.in_ok-view.ensures.right c.as_slice-items.result.now (c.as_slice-items.ensures ∙ ap (λ (f : Frame). f.items) c.frame.view_is) c.in_ok-check_times.ensures.right c.check_items.new.notes
    c.in_err-commitments.field-0.0 (not_memory c.from_residual-in_err-commitments.result c.in_err-commitments.field-0.0 (search rules) n) c.in_err-commitments.ensures.wrong
    (c.in_err-commitments.ensures.noted (λ q. not_memory c.from_residual-in_err-commitments.result c.in_err-commitments.field-0.0 (search rules) n (cc)))

pub returns-in_err-commitments-clause-keeps : goal.returns-in_err-commitments-clause-keeps
returns-in_err-commitments-clause-keeps c =
    keeps_twice c.args.notes.now c.check_frame_tag.new.notes c.check_items.new.notes (keeps_found c.args.notes.now c.check_frame_tag.new.notes _ c.in_ok-check_frame_tag.ensures.noted) c.in_err-commitments.ensures.keeps

pub check_openings-requires : goal.check_openings-requires
check_openings-requires c =
    let p = c.args.kept.now.program.now in
    let h = (state_of c.args.kept.now).held in
    let f = c.args.frame.now in
    let opened : c.as_slice-openings.result.now ≡ f.openings = c.as_slice-openings.ensures ∙ ap (λ (f : Frame). f.openings) c.frame.view_is in
    subst (λ (os : List Opening). All (λ (o : Opening). o.variable < length c.graph-graph.result.now.variables) os) (sym opened)
    (subst (λ (g : Graph). All (λ (o : Opening). o.variable < length g.variables) f.openings) (sym c.graph-graph.ensures.graph) (variables_there p c.graph-graph.ensures.program h refl f c.in_ok-view.ensures.right))

pub returns-in_err-check_openings-clause-noted : goal.returns-in_err-check_openings-clause-noted
returns-in_err-check_openings-clause-noted c = λ n.
    stops_at_openings c.args.keys.now c.args.kept.now.program.now (state_of c.args.kept.now).held c.args.frame.now c.args.notes.now c.check_frame_tag.new.notes c.in_ok-check_frame_tag.ensures.right c.in_ok-check_frame_tag.ensures.noted
    c.in_ok-view.ensures.right c.as_slice-items.result.now (c.as_slice-items.ensures ∙ ap (λ (f : Frame). f.items) c.frame.view_is) c.in_ok-check_times.ensures.right c.check_items.new.notes
    c.in_ok-commitments.ensures.right (c.in_ok-commitments.ensures.noted (λ z. cc))
    c.graph-graph.result.now c.graph-graph.ensures.graph c.as_slice.result.now (c.as_slice.ensures.value ∙ c.in_ok-commitments.ensures.commitments) c.as_slice-openings.result.now (c.as_slice-openings.ensures ∙ ap (λ (f : Frame). f.openings) c.frame.view_is)
    c.check_openings.new.notes c.in_err-check_openings.field-0.0 (not_memory c.from_residual-in_err-check_openings.result c.in_err-check_openings.field-0.0 (search rules) n) c.in_err-check_openings.ensures.wrong
    (c.in_err-check_openings.ensures.noted (λ q. not_memory c.from_residual-in_err-check_openings.result c.in_err-check_openings.field-0.0 (search rules) n (cc)))

pub returns-in_err-check_openings-clause-keeps : goal.returns-in_err-check_openings-clause-keeps
returns-in_err-check_openings-clause-keeps c =
    keeps_twice c.args.notes.now c.check_items.new.notes c.check_openings.new.notes
    (keeps_twice c.args.notes.now c.check_frame_tag.new.notes c.check_items.new.notes (keeps_found c.args.notes.now c.check_frame_tag.new.notes _ c.in_ok-check_frame_tag.ensures.noted) c.in_ok-commitments.ensures.keeps)
    c.in_err-check_openings.ensures.keeps

pub accept-requires-clause-turn : goal.accept-requires-clause-turn
accept-requires-clause-turn c =
    turn_next c.args.kept.now.program.now c.graph-graph.ensures.program (state_of c.args.kept.now).held refl c.args.frame.now c.requires.holds c.requires.spelled.is_frame c.in_ok-view.ensures.right c.args.keys.now c.requires.version
    (stops_nowhere c.args.keys.now c.args.kept.now.program.now (state_of c.args.kept.now).held c.args.frame.now c.args.notes.now c.check_frame_tag.new.notes c.in_ok-check_frame_tag.ensures.right c.in_ok-check_frame_tag.ensures.noted
    c.in_ok-view.ensures.right c.as_slice-items.result.now (c.as_slice-items.ensures ∙ ap (λ (f : Frame). f.items) c.frame.view_is) c.in_ok-check_times.ensures.right c.check_items.new.notes
    c.in_ok-commitments.ensures.right (c.in_ok-commitments.ensures.noted (λ z. cc))
    c.graph-graph.result.now c.graph-graph.ensures.graph c.as_slice.result.now (c.as_slice.ensures.value ∙ c.in_ok-commitments.ensures.commitments) c.as_slice-openings.result.now (c.as_slice-openings.ensures ∙ ap (λ (f : Frame). f.openings) c.frame.view_is)
    c.in_ok-check_openings.ensures.right)

pub returns-clause-noted : goal.returns-clause-noted
returns-clause-noted c = λ n.
    all_noted c.args.keys.now c.args.kept.now.program.now (state_of c.args.kept.now).held c.args.frame.now c.args.notes.now c.check_frame_tag.new.notes c.in_ok-check_frame_tag.ensures.right c.in_ok-check_frame_tag.ensures.noted
    c.in_ok-view.ensures.right c.as_slice-items.result.now (c.as_slice-items.ensures ∙ ap (λ (f : Frame). f.items) c.frame.view_is) c.in_ok-check_times.ensures.right c.check_items.new.notes
    c.in_ok-commitments.ensures.right (c.in_ok-commitments.ensures.noted (λ z. cc))
    c.graph-graph.result.now c.graph-graph.ensures.graph c.as_slice.result.now (c.as_slice.ensures.value ∙ c.in_ok-commitments.ensures.commitments) c.as_slice-openings.result.now (c.as_slice-openings.ensures ∙ ap (λ (f : Frame). f.openings) c.frame.view_is)
    c.check_openings.new.notes c.in_ok-check_openings.ensures.right (c.in_ok-check_openings.ensures.noted (λ z. cc))

-- errors that are one
one_error : {A E : Type 0} (x y : E) → ◌≡◌ {A = Result A E} (Err x) (Err y) → x ≡ y
one_error x y e = cc

pub returns-in_err-check_frame_tag-clause-early : goal.returns-in_err-check_frame_tag-clause-early
returns-in_err-check_frame_tag-clause-early c = λ n q.
    let same : c.from_residual.result ≡ Err c.in_err-check_frame_tag.field-0.0 = search rules in
    c.in_err-check_frame_tag.ensures.early n (ap (λ e. Err e) (one_error {A = Acceptance} {E = RefusalFault} c.in_err-check_frame_tag.field-0.0 refusal_fault.OutOfMemory (sym same ∙ q)))

pub returns-in_err-view-clause-early : goal.returns-in_err-view-clause-early
returns-in_err-view-clause-early c = λ n q. has_sender c.args.keys.now c.args.kept.now.program.now (state_of c.args.kept.now).held c.args.frame.now c.in_ok-check_frame_tag.ensures.right n

pub returns-in_err-check_times-clause-early : goal.returns-in_err-check_times-clause-early
returns-in_err-check_times-clause-early c = λ n q. has_sender c.args.keys.now c.args.kept.now.program.now (state_of c.args.kept.now).held c.args.frame.now c.in_ok-check_frame_tag.ensures.right n

pub returns-in_err-commitments-clause-early : goal.returns-in_err-commitments-clause-early
returns-in_err-commitments-clause-early c = λ n q. has_sender c.args.keys.now c.args.kept.now.program.now (state_of c.args.kept.now).held c.args.frame.now c.in_ok-check_frame_tag.ensures.right n

pub returns-in_err-check_openings-clause-early : goal.returns-in_err-check_openings-clause-early
returns-in_err-check_openings-clause-early c = λ n q. has_sender c.args.keys.now c.args.kept.now.program.now (state_of c.args.kept.now).held c.args.frame.now c.in_ok-check_frame_tag.ensures.right n

pub returns-clause-early : goal.returns-clause-early
returns-clause-early c = λ n q. has_sender c.args.keys.now c.args.kept.now.program.now (state_of c.args.kept.now).held c.args.frame.now c.in_ok-check_frame_tag.ensures.right n

pub returns-in_err-check_frame_tag-clause-keeps : goal.returns-in_err-check_frame_tag-clause-keeps
returns-in_err-check_frame_tag-clause-keeps c = subst (KeepsNotes c.args.notes.now) (sym c.in_err-check_frame_tag.ensures.same) (keeps_same c.args.notes.now)

pub returns-in_err-view-clause-keeps : goal.returns-in_err-view-clause-keeps
returns-in_err-view-clause-keeps c = keeps_found c.args.notes.now c.check_frame_tag.new.notes _ c.in_ok-check_frame_tag.ensures.noted

pub returns-in_err-check_times-clause-keeps : goal.returns-in_err-check_times-clause-keeps
returns-in_err-check_times-clause-keeps c = keeps_found c.args.notes.now c.check_frame_tag.new.notes _ c.in_ok-check_frame_tag.ensures.noted

pub returns-clause-keeps : goal.returns-clause-keeps
returns-clause-keeps c =
    keeps_twice c.args.notes.now c.check_items.new.notes c.check_openings.new.notes
    (keeps_twice c.args.notes.now c.check_frame_tag.new.notes c.check_items.new.notes (keeps_found c.args.notes.now c.check_frame_tag.new.notes _ c.in_ok-check_frame_tag.ensures.noted) c.in_ok-commitments.ensures.keeps)
    c.in_ok-check_openings.ensures.keeps
