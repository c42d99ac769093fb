use Rattle.std.proofs.Common.{◌∙◌, Bool, ap, sym, length, nat_lt, Some}
use Rattle.sg_certify.proofs.FindLaws.{find_at, find_past}
use Rattle.sg_protocol.specs.Graph.{Graph}
use Rattle.sg_world.proofs.lines.first_with.Goals as goal

pub returns-then-has : goal.returns-then-has
returns-then-has c =
    let p : Graph → Bool = λ h. nat_lt c.args.var (length h.variables) in
    ap Some c.graph-item.is ∙ sym (find_at p c.args.graphs.now c.loop-graph.graph-index c.graph-item.result c.loop-graph-test.true c.loop-graph.invariant (ap p (sym c.graph-item.is) ∙ sym c.has.ensures ∙ c.if-has.true))

pub loop-graph-preserved : goal.loop-graph-preserved
loop-graph-preserved c =
    let p : Graph → Bool = λ h. nat_lt c.args.var (length h.variables) in
    find_past p c.args.graphs.now c.loop-graph.graph-index c.graph-item.result c.loop-graph-test.true c.loop-graph.invariant (ap p (sym c.graph-item.is) ∙ sym c.has.ensures ∙ c.if-has.false)
