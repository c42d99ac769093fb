use Rattle.std.proofs.Common.{◌==◌, [], sym, ◌∙◌, arith}
use Rattle.std.proofs.lemmas.List.Folds.{list_any_at}
use Rattle.sg_protocol.specs.Graph.{Edge}
use Rattle.sg_compose.proofs.Ends.{any-more}
use Rattle.sg_compose.proofs.end.is_entered.Goals as goal

pub returns-then-enters_start : goal.returns-then-enters_start
returns-then-enters_start c =
    sym (list_any_at (λ (e : Edge). e.target == 0) c.args.inner.now.edges c.loop-number.number (record { name = []; source = 0; target = 0; writes = []; reads = [] }) (omega (arith, c.loop-number-test.true, c.edges-number-end.ensures.count))
    (sym c.enters_start.ensures ∙ c.if-enters_start.true))

pub loop-number-preserved : goal.loop-number-preserved
loop-number-preserved c =
    any-more (λ (e : Edge). e.target == 0) c.args.inner.now.edges c.loop-number.number (record { name = []; source = 0; target = 0; writes = []; reads = [] }) (omega (arith, c.loop-number-test.true, c.edges-number-end.ensures.count)) c.loop-number.invariant
    (sym c.enters_start.ensures ∙ c.if-enters_start.false)
