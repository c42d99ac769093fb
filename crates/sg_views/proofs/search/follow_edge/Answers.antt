use Rattle.std.proofs.Common.{◌≡◌, get_or, sym, subst, arith}
use Rattle.std.specs.Option.{IfSome}
use Rattle.std.proofs.lemmas.Option.{get_or_from_slice_get}
use Rattle.std.proofs.lemmas.Result.{on_ok_weaker}
use Rattle.sg_model.specs.Shape.{source}
use Rattle.sg_protocol.specs.Graph.{shape}
use Rattle.sg_views.specs.Search.{Adds, LeadsInto, Searched, next_state}
use Rattle.sg_views.proofs.Growing.{searched-added, extends-added, has-added, one_more-added}
use Rattle.sg_views.proofs.search.follow_edge.Goals as goal

pub returns : goal.returns
returns c =
    let g = c.args.graph.now in
    let r = c.args.role in
    let old = c.args.states.now in
    let new = c.add.new.self in
    let p = c.get.result.now in
    let next = next_state g r p c.args.at c.args.label in
    let is : p ≡ get_or old c.args.at p = sym (get_or_from_slice_get old c.args.at p p c.get.ensures) in
    let leaves : source (shape g) c.args.label ≡ p.node = subst (λ o. IfSome o (λ q. source (shape g) c.args.label ≡ q.node)) c.get.ensures c.requires.source in
    let adds : Adds old new next = subst (Adds old new) c.in-Ok.ensures c.in-Ok-add.ensures.added in
    let searched : Searched g r new = searched-added g r old new c.args.at c.args.label p c.requires.searched c.requires.there is c.requires.label leaves adds in
    let few = c.check_open.ensures.few in
    record {
      searched = on_ok_weaker c.check_open.result (λ _. searched) few;
      few = few;
      extends = on_ok_weaker c.check_open.result (λ _. extends-added old new next adds) few;
      leads = on_ok_weaker c.check_open.result (λ _. subst (λ o. IfSome o (λ q. LeadsInto g r new q c.args.label)) (sym c.get.ensures) (has-added old new next adds)) few;
      refused = c.check_open.ensures.refused g r searched (omega (arith, one_more-added old new next adds, c.requires.few));
    }
