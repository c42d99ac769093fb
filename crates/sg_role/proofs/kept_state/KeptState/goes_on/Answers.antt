use Rattle.std.proofs.Common.{◌==◌, sym, ap, ◌∙◌, arith}
use Rattle.sg_graph.specs.declared.edge.Edge.{Edge}
use Rattle.sg_role.proofs.Edges.{none_goes_on}
use Rattle.sg_role.proofs.kept_state.KeptState.goes_on.Goals as goal

pub loop-number-preserved : goal.loop-number-preserved
loop-number-preserved c = none_goes_on c.graph-graph.result.now c.args.self.now.place c.loop-number.number (omega (arith, c.loop-number-test.true, c.edges-number-end.ensures.count)) c.loop-number.invariant
    (ap (λ (e : Edge). e.source == c.args.self.now.place) (sym c.edge.ensures.edge) ∙ sym c.if-eq.ensures)
