use Rattle.std.proofs.Common.{[], sym, ap, ◌∙◌, arith}
use Rattle.std.proofs.lemmas.List.Folds.{list_any_at}
use Rattle.sg_model.specs.Lists.{has_text}
use Rattle.sg_protocol.specs.Graph.{Edge}
use Rattle.sg_graph.specs.Parts.{edge_names}
use Rattle.sg_compose.specs.Expansion.{inner_name}
use Rattle.sg_compose.proofs.Ends.{any-more}
use Rattle.sg_compose.proofs.fit.has_edge.Goals as goal

pub returns-then-names_edge-clause-answer : goal.returns-then-names_edge-clause-answer
returns-then-names_edge-clause-answer c =
    sym (list_any_at (λ (e : Edge). has_text (inner_name c.args.used.now e.name) (edge_names c.args.graph.now)) c.args.inner.now.edges c.loop-number.number (record { name = []; source = 0; target = 0; writes = []; reads = [] }) (omega (arith, c.loop-number-test.true, c.edges-number-end.ensures.count))
    (ap (λ n. has_text (inner_name c.args.used.now n) (edge_names c.args.graph.now)) (sym c.edge_name.ensures) ∙ ap (λ n. has_text n (edge_names c.args.graph.now)) (sym c.in_ok-name.ensures.name) ∙ sym c.names_edge.ensures ∙ c.if-names_edge.true))

pub loop-number-preserved : goal.loop-number-preserved
loop-number-preserved c =
    any-more (λ (e : Edge). has_text (inner_name c.args.used.now e.name) (edge_names c.args.graph.now)) c.args.inner.now.edges c.loop-number.number (record { name = []; source = 0; target = 0; writes = []; reads = [] }) (omega (arith, c.loop-number-test.true, c.edges-number-end.ensures.count)) c.loop-number.invariant
    (ap (λ n. has_text (inner_name c.args.used.now n) (edge_names c.args.graph.now)) (sym c.edge_name.ensures) ∙ ap (λ n. has_text n (edge_names c.args.graph.now)) (sym c.in_ok-name.ensures.name) ∙ sym c.names_edge.ensures ∙ c.if-names_edge.false)
