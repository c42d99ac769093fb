use Rattle.std.proofs.Common.{[], sym, ap, ◌∙◌, arith}
use Rattle.std.proofs.lemmas.List.Folds.{list_any_at}
use Rattle.sg_model.specs.Lists.{has_text}
use Rattle.sg_protocol.specs.Graph.{Int, Variable}
use Rattle.sg_graph.specs.Parts.{variable_names}
use Rattle.sg_compose.specs.Expansion.{inner_name}
use Rattle.sg_compose.proofs.Ends.{any-more}
use Rattle.sg_compose.proofs.fit.has_var.Goals as goal

pub returns-then-names_var-clause-answer : goal.returns-then-names_var-clause-answer
returns-then-names_var-clause-answer c =
    sym (list_any_at (λ (v : Variable). has_text (inner_name c.args.used.now v.name) (variable_names c.args.graph.now)) c.args.inner.now.variables c.loop-number.number (record { name = []; kind = Int; writers = [] }) (omega (arith, c.loop-number-test.true, c.vars-number-end.ensures.count))
    (ap (λ n. has_text (inner_name c.args.used.now n) (variable_names c.args.graph.now)) (sym c.var_name.ensures) ∙ ap (λ n. has_text n (variable_names c.args.graph.now)) (sym c.in_ok-name.ensures.name) ∙ sym c.names_var.ensures ∙ c.if-names_var.true))

pub loop-number-preserved : goal.loop-number-preserved
loop-number-preserved c =
    any-more (λ (v : Variable). has_text (inner_name c.args.used.now v.name) (variable_names c.args.graph.now)) c.args.inner.now.variables c.loop-number.number (record { name = []; kind = Int; writers = [] }) (omega (arith, c.loop-number-test.true, c.vars-number-end.ensures.count)) c.loop-number.invariant
    (ap (λ n. has_text (inner_name c.args.used.now n) (variable_names c.args.graph.now)) (sym c.var_name.ensures) ∙ ap (λ n. has_text n (variable_names c.args.graph.now)) (sym c.in_ok-name.ensures.name) ∙ sym c.names_var.ensures ∙ c.if-names_var.false)
