use Rattle.std.proofs.Common.{length, inl, inr, arith, rules}
use Rattle.sg_protocol.specs.Graph.{variable_name}
use Rattle.sg_graph.proofs.Lines.{words_none, words_next, words_all}
use Rattle.sg_graph.proofs.text.put_vars_of.Goals as goal
use Rattle.sg_graph.proofs.text.put_vars_of.Goals.{then-has+in_ok-put_spaced, else-has}

pub loop-number-init : goal.loop-number-init
loop-number-init c = words_none (variable_name c.args.graph.now) c.args.vars c.args.out.now

pub loop-number-preserved : goal.loop-number-preserved
loop-number-preserved c =
    words_next (variable_name c.args.graph.now) _ c.args.vars c.loop-number.number c.args.out.now c.loop-number.out c.if-has.out c.has.result c.requires c.has.ensures c.loop-number.invariant (elim c.if-has.branch [
      | then-has+in_ok-put_spaced w ↦ inl (w.if-has.true, search rules)
      | else-has w ↦ inr (w.if-has.false, w.out-is)
    ])

pub returns : goal.returns
returns c = words_all (variable_name c.args.graph.now) (length c.args.graph.now.variables) c.args.vars c.loop-number.number c.args.out.now c.loop-number.out c.requires (omega arith) c.loop-number.invariant
