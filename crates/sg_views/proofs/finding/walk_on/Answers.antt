use Rattle.std.proofs.Common.{◌≡◌, ◌++◌, ◌∷◌, [], Some, get_or, subst, sym, ◌∙◌}
use Rattle.std.specs.Option.{IfSome}
use Rattle.std.specs.List.{slice_get}
use Rattle.std.proofs.lemmas.Option.{slice_get-get_or}
use Rattle.sg_model.specs.Shape.{source}
use Rattle.sg_protocol.specs.Graph.{shape}
use Rattle.sg_views.specs.Search.{Arrives}
use Rattle.sg_views.specs.Steps.{next_view}
use Rattle.sg_vis.specs.Table.{Shows}
use Rattle.sg_views.specs.declared.states.State.{State}
use Rattle.sg_views.proofs.Reached.{no_state, shown_on}
use Rattle.sg_views.proofs.finding.walk_on.Goals as goal

pub returns : goal.returns
returns c = λ g r s l t leaves.
    (let states = c.args.states.now in
    let p : State = get_or states c.args.at no_state in
    let at : slice_get states c.args.at ≡ Some p = slice_get-get_or states c.args.at no_state c.requires.there in
    let arrives : Arrives g r p c.in_ok-walk.walk.items = subst (λ o. IfSome o (λ q. Arrives g r q c.in_ok-walk.walk.items)) at (c.in_ok-walk.ensures g r s) in
    let from : source (shape g) c.args.label ≡ p.node = subst (λ o. IfSome o (λ q. source (shape g) c.args.label ≡ q.node)) at leaves in
    let whole : c.from_vec.result ≡ c.in_ok-walk.walk.items ++ c.args.label ∷ [] = c.from_vec.ensures ∙ c.in_ok-push.ensures.items in
    let shows = shown_on g r p c.in_ok-walk.walk.items c.args.label s.graph arrives l from t in
    subst (λ o. IfSome o (λ q. Shows g r c.from_vec.result (next_view g r q.view c.args.label))) (sym at)
    (subst (λ w. Shows g r w (next_view g r p.view c.args.label)) (sym whole) shows))
