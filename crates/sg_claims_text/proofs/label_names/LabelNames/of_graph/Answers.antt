use Rattle.std.proofs.Common.{◌<◌, length, arith, ◌∙◌}
use Rattle.sg_claims_text.proofs.Among.{is_new, one_more}
use Rattle.sg_claims_text.proofs.label_names.LabelNames.of_graph.Goals as goal

pub add-requires : goal.add-requires
add-requires c =
    let g = c.args.graph.now in
    let below : c.labels.number < length g.edges = omega (arith, c.edges-number-end.ensures.count, c.labels-test.true) in
    rw (c.edge_name.ensures, c.labels.invariant) (is_new g c.labels.number c.edges-number-end.ensures.graph below)

pub labels-preserved : goal.labels-preserved
labels-preserved c =
    let g = c.args.graph.now in
    let below : c.labels.number < length g.edges = omega (arith, c.edges-number-end.ensures.count, c.labels-test.true) in
    c.in_ok-add.ensures.ok ∙ rw (c.labels.invariant, c.edge_name.ensures) (one_more g c.labels.number below)
