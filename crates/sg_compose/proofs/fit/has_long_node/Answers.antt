use Rattle.std.proofs.Common.{◌<◌, length, sym, ◌∙◌, arith}
use Rattle.sg_protocol.specs.Graph.{node_name}
use Rattle.sg_compose.specs.Expansion.{inner_name, is_long, is_inside}
use Rattle.sg_compose.proofs.Ends.{any-inside-more, any-inside-hit}
use Rattle.sg_compose.proofs.fit.has_long_node.Goals as goal

pub returns-then-is_long_node : goal.returns-then-is_long_node
returns-then-is_long_node c =
    let g = c.args.inner.now in
    let n = c.loop-number.number in
    let lt : n < length g.nodes = omega (arith, c.loop-number-test.true, c.nodes-number-end.ensures.count) in
    sym (any-inside-hit (λ x. is_long (inner_name c.args.used.now (node_name c.args.inner.now x))) (is_inside c.args.end) n (length g.nodes) lt (sym c.is_long_node.ensures ∙ c.if-is_long_node.true))

pub loop-number-preserved : goal.loop-number-preserved
loop-number-preserved c =
    any-inside-more (λ x. is_long (inner_name c.args.used.now (node_name c.args.inner.now x))) (is_inside c.args.end) c.loop-number.number c.loop-number.invariant (sym c.is_long_node.ensures ∙ c.if-is_long_node.false)
