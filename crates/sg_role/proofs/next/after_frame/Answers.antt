use Rattle.std.proofs.Common.{◌≡◌, ◌<◌, ◌++◌, List, None, Option, map, length, get_or, unwrap_or, option_map, All, refl, sym, ap, subst, ◌∙◌}
use Rattle.std.specs.Option.{option_or}
use Rattle.sg_model.specs.Last.{last}
use Rattle.sg_model.specs.Lists.{below}
use Rattle.sg_model.specs.Shape.{target}
use Rattle.sg_model.specs.Values.{Opening}
use Rattle.sg_protocol.specs.Frame.{Item, Frame}
use Rattle.sg_protocol.specs.Graph.{Graph, shape}
use Rattle.sg_protocol.specs.Kept.{kept_items}
use Rattle.sg_protocol.specs.Session.{last_label, opening_in}
use Rattle.sg_protocol.specs.Representation.{Held}
use Rattle.sg_role.specs.Model.{state_of}
use Rattle.sg_role.proofs.NextState.{labels_there, next_is}
use Rattle.sg_role.proofs.next.after_frame.Goals as goal

pub ended-time-requires : goal.ended-time-requires
ended-time-requires c =
    let p = c.args.kept.now.program.now in
    subst (All (λ (i : Item). i.label < length p.graph.edges)) (sym (c.as_slice-shown.ensures ∙ ap (λ (f : Frame). f.items) c.frame.view_is))
    (labels_there p c.graph.ensures.program (state_of c.args.kept.now).held refl c.args.frame.now c.requires.seen)

pub returns : goal.returns
returns c =
    let p = c.args.kept.now.program.now in
    let h = (state_of c.args.kept.now).held in
    let f = c.args.frame.now in
    let shown : c.as_slice-shown.result.now ≡ f.items = c.as_slice-shown.ensures ∙ ap (λ (f : Frame). f.items) c.frame.view_is in
    let opened : c.as_slice-opened.result.now ≡ f.openings = c.as_slice-opened.ensures ∙ ap (λ (f : Frame). f.openings) c.frame.view_is in
    let count : length p.graph.variables ≡ c.vars-count.result = sym (c.vars-count.ensures.count ∙ ap (λ (g : Graph). length g.variables) c.graph.ensures.graph) in
    c.in_ok-next.ensures
    ∙ ap (λ (z : Held). record { program = p; held = z }) (next_is p c.graph.ensures.program h refl f c.requires.holds c.requires.spelled c.requires.seen
    c.ended-time.result.0 c.ended-time.result.1 c.in_ok-items.items.items c.args.commitments.items c.in_ok-openings.openings.items
    (c.ended-time.ensures.time ∙ ap (λ (is : List Item). unwrap_or (option_map (λ (i : Item). i.time) (last is)) h.kept.time) shown)
    (c.ended-time.ensures.place ∙ ap (λ (is : List Item). unwrap_or (option_map (target (shape p.graph)) (last_label is)) h.kept.place) shown)
    (c.in_ok-items.ensures p.graph count ∙ ap (λ (is : List Item). kept_items p.graph (is ++ c.as_slice-shown.result.now)) c.as_slice.ensures.value ∙ ap (λ (is : List Item). kept_items p.graph (h.kept.items ++ is)) shown)
    c.requires.commitments
    (c.in_ok-openings.ensures
    ∙ ap (λ (os : List (Option Opening)). map (λ x. option_or (opening_in c.as_slice-opened.result.now x) (get_or os x None)) (below c.vars-count.result)) c.as_slice-2.ensures.value
    ∙ ap (λ (os : List Opening). map (λ x. option_or (opening_in os x) (get_or h.kept.openings x None)) (below c.vars-count.result)) opened
    ∙ ap (λ n. map (λ x. option_or (opening_in f.openings x) (get_or h.kept.openings x None)) (below n)) (sym count)))
