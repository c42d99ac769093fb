use Rattle.std.proofs.Common.{◌<◌, length, sym, ◌∙◌, arith}
use Rattle.sg_model.specs.Lists.{has_text}
use Rattle.sg_protocol.specs.Graph.{node_name}
use Rattle.sg_graph.specs.Parts.{node_names}
use Rattle.sg_compose.specs.Expansion.{inner_name, is_inside, is_long}
use Rattle.sg_compose.proofs.Ends.{any-inside-more, any-inside-hit}
use Rattle.sg_compose.proofs.NewNames.{none-inside}
use Rattle.sg_compose.proofs.fit.has_node.Goals as goal

pub returns-then-there-clause-answer : goal.returns-then-there-clause-answer
returns-then-there-clause-answer c =
    let g = c.args.inner.now in
    let n = c.loop-number.number in
    let lt : n < length g.nodes = omega (arith, c.loop-number-test.true, c.nodes-number-end.ensures.count) in
    sym (any-inside-hit (λ x. has_text (inner_name c.args.used.now (node_name c.args.inner.now x)) (node_names c.args.graph.now)) (is_inside c.args.end) n (length g.nodes) lt (sym c.in_ok-there.ensures.answer ∙ c.if-there.true))

pub loop-number-preserved : goal.loop-number-preserved
loop-number-preserved c =
    any-inside-more (λ x. has_text (inner_name c.args.used.now (node_name c.args.inner.now x)) (node_names c.args.graph.now)) (is_inside c.args.end) c.loop-number.number c.loop-number.invariant (sym c.in_ok-there.ensures.answer ∙ c.if-there.false)

pub is_there-requires-clause-short : goal.is_there-requires-clause-short
is_there-requires-clause-short c =
    let lt : c.loop-number.number < length c.args.inner.now.nodes = omega (arith, c.loop-number-test.true, c.nodes-number-end.ensures.count) in
    none-inside (λ x. is_long (inner_name c.args.used.now (node_name c.args.inner.now x))) (is_inside c.args.end) c.loop-number.number (length c.args.inner.now.nodes) lt c.requires
