use Rattle.std.proofs.Common.{[], sym, ap, ◌∙◌, arith}
use Rattle.std.proofs.lemmas.List.Folds.{list_any_at}
use Rattle.sg_protocol.specs.Graph.{Edge}
use Rattle.sg_compose.specs.Expansion.{inner_name, is_long}
use Rattle.sg_compose.proofs.Ends.{any-more}
use Rattle.sg_compose.proofs.fit.has_long_edge.Goals as goal

pub returns-then-is_long : goal.returns-then-is_long
returns-then-is_long c =
    sym (list_any_at (λ (e : Edge). is_long (inner_name c.args.used.now e.name)) c.args.inner.now.edges c.loop-number.number (record { name = []; source = 0; target = 0; writes = []; reads = [] }) (omega (arith, c.loop-number-test.true, c.edges-number-end.ensures.count))
    (ap (λ n. is_long (inner_name c.args.used.now n)) (sym c.edge_name.ensures) ∙ sym c.is_long.ensures ∙ c.if-is_long.true))

pub loop-number-preserved : goal.loop-number-preserved
loop-number-preserved c =
    any-more (λ (e : Edge). is_long (inner_name c.args.used.now e.name)) c.args.inner.now.edges c.loop-number.number (record { name = []; source = 0; target = 0; writes = []; reads = [] }) (omega (arith, c.loop-number-test.true, c.edges-number-end.ensures.count)) c.loop-number.invariant
    (ap (λ n. is_long (inner_name c.args.used.now n)) (sym c.edge_name.ensures) ∙ sym c.is_long.ensures ∙ c.if-is_long.false)
