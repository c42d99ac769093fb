use Rattle.std.proofs.Common.{◌≡◌, ◌<◌, false, [], length, sym, subst, arith}
use Rattle.sg_model.specs.Lists.{has_text}
use Rattle.sg_protocol.specs.Graph.{Edge, Graph}
use Rattle.sg_graph.specs.Parts.{edge_at, edge_names}
use Rattle.sg_compose.specs.Expansion.{inner_name, new_edge}
use Rattle.sg_compose.proofs.NewNames.{may-follow-at}
use Rattle.sg_compose.proofs.add.add_edges.Goals as goal

pub add_edge-requires-clause-short : goal.add_edge-requires-clause-short
add_edge-requires-clause-short c =
    let lt : c.loop-number.number < length c.args.inner.now.edges = omega (arith, c.loop-number-test.true, c.edges-number-end.ensures.count) in
    (may-follow-at (λ (e : Edge). e.name) (new_edge c.args.vars c.args.nodes c.args.used.now c.args.end) c.args.graph.now.edges 512 c.args.inner.now.edges c.requires.names c.requires.room c.loop-number.number
    (record { name = []; source = 0; target = 0; writes = []; reads = [] }) lt).short

pub add_edge-requires-clause-new : goal.add_edge-requires-clause-new
add_edge-requires-clause-new c =
    let lt : c.loop-number.number < length c.args.inner.now.edges = omega (arith, c.loop-number-test.true, c.edges-number-end.ensures.count) in
    subst (λ (g : Graph). has_text (inner_name c.args.used.now (edge_at c.args.inner.now c.loop-number.number).name) (edge_names g) ≡ false) (sym c.loop-number.invariant)
    (may-follow-at (λ (e : Edge). e.name) (new_edge c.args.vars c.args.nodes c.args.used.now c.args.end) c.args.graph.now.edges 512 c.args.inner.now.edges c.requires.names c.requires.room c.loop-number.number
    (record { name = []; source = 0; target = 0; writes = []; reads = [] }) lt).free
