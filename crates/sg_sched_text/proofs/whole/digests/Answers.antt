use Rattle.std.proofs.Common.{◌≡◌, ◌∙◌, ap, sym, List, ℕ, ◌∷◌, ◌++◌, [], arith}
use Rattle.std.proofs.lemmas.List.{map_more}
use Rattle.sg_protocol.specs.Graph.{Graph}
use Rattle.sg_protocol.specs.Texts.{real, graph_digest}
use Rattle.sg_sched_text.proofs.whole.digests.Goals as goal

pub loop-graph-preserved : goal.loop-graph-preserved
loop-graph-preserved c =
    let f : Graph → List ℕ = graph_digest real in
    let last : c.in_ok-digest_of.field-0 ≡ f _ = c.in_ok-digest_of.ensures ∙ ap f c.graph-item.is in
    c.in_ok-push.ensures.ok ∙ (λ i. c.loop-graph.invariant i ++ last i ∷ []) ∙ sym (map_more f c.args.graphs.now c.loop-graph.graph-index c.graph-item.result (omega arith))
