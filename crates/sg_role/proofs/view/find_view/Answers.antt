use Rattle.std.proofs.Common.{◌≡◌, ◌∙◌, sym, ap, subst, map, slice_get, Some, All, Contains}
use Rattle.sg_protocol.specs.Evidence.{View}
use Rattle.sg_protocol.specs.Frame.{Frame}
use Rattle.sg_protocol.specs.Verdict.{seen}
use Rattle.sg_protocol.proofs.SeenItems.{view_there}
use Rattle.sg_vis.specs.Model.{origin_of}
use Rattle.sg_role.specs.Looking.{HasRisingVars}
use Rattle.sg_role.proofs.Shown.{labels_found, contains_at, not_viewed, all_true, all_false}
use Rattle.sg_role.proofs.Spelled.{items_rise}
use Rattle.sg_role.proofs.view.find_view.Goals as goal

pub all_seen-requires : goal.all_seen-requires
all_seen-requires c = subst (All HasRisingVars) (sym (c.as_slice.ensures ∙ ap (λ (f : Frame). f.items) c.frame.view_is)) (items_rise c.args.frame.now c.requires)

pub returns-in_default-clause-wrong : goal.returns-in_default-clause-wrong
returns-in_default-clause-wrong c =
    let its : c.as_slice.result.now ≡ c.args.frame.now.items = c.as_slice.ensures ∙ ap (λ (f : Frame). f.items) c.frame.view_is in
    let items : c.as_slice-2.result.now ≡ map seen c.args.frame.now.items = c.as_slice-2.ensures.value ∙ c.in_ok-seen.ensures ∙ ap (map seen) its in
    let table = c.args.kept.now.program.now.views in
    let v : View = record { origin = origin_of c.args.kept.now.from; items = map seen c.args.frame.now.items } in
    let none : Contains table v → ⊥ = λ k. c.in_default.ensures (subst (λ t. Contains t (record { origin = origin_of c.args.kept.now.from; items = c.as_slice-2.result.now })) (sym c.views.ensures.views)
    (subst (λ l. Contains table (record { origin = origin_of c.args.kept.now.from; items = l })) (sym items) k)) in
    all_false c.args.kept.now.program.now (origin_of c.args.kept.now.from) c.args.frame.now (not_viewed table v none)

pub has_form-requires-clause-labels : goal.has_form-requires-clause-labels
has_form-requires-clause-labels c =
    let its : c.as_slice.result.now ≡ c.args.frame.now.items = c.as_slice.ensures ∙ ap (λ (f : Frame). f.items) c.frame.view_is in
    let items : c.as_slice-2.result.now ≡ map seen c.args.frame.now.items = c.as_slice-2.ensures.value ∙ c.in_ok-seen.ensures ∙ ap (map seen) its in
    labels_found c.args.kept.now.program.now c.views.ensures.program (origin_of c.args.kept.now.from) c.args.frame.now.items c.in-Some.view
    (ap (λ t. slice_get t c.in-Some.view) (sym c.views.ensures.views) ∙ c.in-Some.ensures ∙ ap (λ l. Some (record { origin = origin_of c.args.kept.now.from; items = l })) items)

pub returns-clause-right : goal.returns-clause-right
returns-clause-right c =
    let its : c.as_slice.result.now ≡ c.args.frame.now.items = c.as_slice.ensures ∙ ap (λ (f : Frame). f.items) c.frame.view_is in
    let items : c.as_slice-2.result.now ≡ map seen c.args.frame.now.items = c.as_slice-2.ensures.value ∙ c.in_ok-seen.ensures ∙ ap (map seen) its in
    let table = c.args.kept.now.program.now.views in
    let v : View = record { origin = origin_of c.args.kept.now.from; items = map seen c.args.frame.now.items } in
    let found : slice_get table c.in-Some.view ≡ Some v = ap (λ t. slice_get t c.in-Some.view) (sym c.views.ensures.views) ∙ c.in-Some.ensures ∙ ap (λ l. Some (record { origin = origin_of c.args.kept.now.from; items = l })) items in
    all_true c.args.kept.now.program.now (origin_of c.args.kept.now.from) c.args.frame.now (view_there table v (contains_at table c.in-Some.view v found)) (sym c.if-not-has_form.ensures)
