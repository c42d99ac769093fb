use Rattle.std.proofs.Common.{[], sym, ap, ◌∙◌, arith}
use Rattle.std.proofs.lemmas.List.Folds.{list_any_at}
use Rattle.sg_protocol.specs.Graph.{Int, Variable}
use Rattle.sg_compose.specs.Expansion.{inner_name, is_long}
use Rattle.sg_compose.proofs.Ends.{any-more}
use Rattle.sg_compose.proofs.fit.has_long_var.Goals as goal

pub returns-then-is_long : goal.returns-then-is_long
returns-then-is_long c =
    sym (list_any_at (λ (v : Variable). is_long (inner_name c.args.used.now v.name)) c.args.inner.now.variables c.loop-number.number (record { name = []; kind = Int; writers = [] }) (omega (arith, c.loop-number-test.true, c.vars-number-end.ensures.count))
    (ap (λ n. is_long (inner_name c.args.used.now n)) (sym c.var_name.ensures) ∙ sym c.is_long.ensures ∙ c.if-is_long.true))

pub loop-number-preserved : goal.loop-number-preserved
loop-number-preserved c =
    any-more (λ (v : Variable). is_long (inner_name c.args.used.now v.name)) c.args.inner.now.variables c.loop-number.number (record { name = []; kind = Int; writers = [] }) (omega (arith, c.loop-number-test.true, c.vars-number-end.ensures.count)) c.loop-number.invariant
    (ap (λ n. is_long (inner_name c.args.used.now n)) (sym c.var_name.ensures) ∙ sym c.is_long.ensures ∙ c.if-is_long.false)
