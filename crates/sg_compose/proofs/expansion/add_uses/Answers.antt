use Rattle.std.proofs.Common.{◌≡◌, length, get_or, ap, sym, subst, ◌∙◌, arith}
use Rattle.std.proofs.lemmas.Result.{err_from_is_err_and}
use Rattle.sg_parse.specs.Parts.{Use, IsUse}
use Rattle.sg_compose.specs.Expansion.{extended, expanded, graph_at}
use Rattle.sg_compose.specs.Owed.{Refuses}
use Rattle.sg_compose.proofs.Steps.{uses_more, uses_stop, extended-keeps, graph-there, use-there}
use Rattle.sg_compose.proofs.expansion.add_uses.Goals as goal

pub returns-in_err-expand_use : goal.returns-in_err-expand_use
returns-in_err-expand_use c =
    let p = err_from_is_err_and c.from_residual.result c.from_residual.ensures.1 in
    let name = c.args.part.now.graph.name in
    let graphs = c.args.graphs.now in
    let u = c.used-item.result in
    let e = c.in_err-expand_use.field-0.0 in
    let fit : IsUse (length graphs) c.args.part.now.graph u = use-there (IsUse (length graphs) c.args.part.now.graph) c.args.part.now.uses c.as_slice-used-items.result.now c.loop-used.used-index u c.requires.part.uses c.loop-used.invariant.items c.loop-used-test.true c.used-item.is in
    let at : graph_at graphs u.part ≡ c.index-graphs-used.result = graph-there graphs u.part c.index-graphs-used.result fit.part (c.index-graphs-used.is ∙ ap (λ k. get_or graphs k c.index-graphs-used.result) (ap (λ (u : Use). u.part) c.used.view_is)) in
    let stop : Refuses (extended name c.loop-used.graph (graph_at graphs u.part) u) e = subst (λ g. Refuses (extended name c.loop-used.graph g u) e) (sym at) c.in_err-expand_use.ensures in
    rw (p.1, p.2) (uses_stop name graphs c.as_slice-used-items.result.now c.loop-used.used-index u c.loop-used.graph e (expanded graphs c.args.part.now) c.loop-used-test.true (sym c.used-item.is) stop c.loop-used.invariant.so_far)

pub loop-used-preserved : goal.loop-used-preserved
loop-used-preserved c =
    let name = c.args.part.now.graph.name in
    let graphs = c.args.graphs.now in
    let u = c.used-item.result in
    let fit : IsUse (length graphs) c.args.part.now.graph u = use-there (IsUse (length graphs) c.args.part.now.graph) c.args.part.now.uses c.as_slice-used-items.result.now c.loop-used.used-index u c.requires.part.uses c.loop-used.invariant.items c.loop-used-test.true c.used-item.is in
    let at : graph_at graphs u.part ≡ c.index-graphs-used.result = graph-there graphs u.part c.index-graphs-used.result fit.part (c.index-graphs-used.is ∙ ap (λ k. get_or graphs k c.index-graphs-used.result) (ap (λ (u : Use). u.part) c.used.view_is)) in
    let keeps = extended-keeps name c.loop-used.graph c.index-graphs-used.result u c.expand_use.new.graph c.in_ok-expand_use.ensures in
    record {
      items = c.loop-used.invariant.items;
      so_far = uses_more name graphs c.as_slice-used-items.result.now c.loop-used.used-index u c.loop-used.graph c.expand_use.new.graph (expanded graphs c.args.part.now) c.loop-used-test.true (sym c.used-item.is)
          (rw at c.in_ok-expand_use.ensures) c.loop-used.invariant.so_far;
      roles = keeps.0 ∙ c.loop-used.invariant.roles;
      nodes = omega (arith, keeps.1, c.loop-used.invariant.nodes);
    }
