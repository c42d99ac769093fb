use Rattle.std.proofs.Common.{◌≡◌, ◌<◌, false, [], length, sym, subst, arith}
use Rattle.sg_model.specs.Lists.{has_text}
use Rattle.sg_protocol.specs.Graph.{Graph, Int, Variable}
use Rattle.sg_graph.specs.Parts.{variable_at, variable_names}
use Rattle.sg_compose.specs.Expansion.{inner_name, new_variable}
use Rattle.sg_compose.proofs.NewNames.{may-follow-at}
use Rattle.sg_compose.proofs.add.add_vars.Goals as goal

pub add_var-requires-clause-short : goal.add_var-requires-clause-short
add_var-requires-clause-short c =
    let lt : c.loop-number.number < length c.args.inner.now.variables = omega (arith, c.loop-number-test.true, c.vars-number-end.ensures.count) in
    (may-follow-at (λ (v : Variable). v.name) (new_variable c.args.used.now) c.args.graph.now.variables 32 c.args.inner.now.variables c.requires.names c.requires.room c.loop-number.number (record { name = []; kind = Int; writers = [] }) lt).short

pub add_var-requires-clause-new : goal.add_var-requires-clause-new
add_var-requires-clause-new c =
    let lt : c.loop-number.number < length c.args.inner.now.variables = omega (arith, c.loop-number-test.true, c.vars-number-end.ensures.count) in
    subst (λ (g : Graph). has_text (inner_name c.args.used.now (variable_at c.args.inner.now c.loop-number.number).name) (variable_names g) ≡ false) (sym c.loop-number.invariant)
    (may-follow-at (λ (v : Variable). v.name) (new_variable c.args.used.now) c.args.graph.now.variables 32 c.args.inner.now.variables c.requires.names c.requires.room c.loop-number.number (record { name = []; kind = Int; writers = [] }) lt).free
