use Rattle.std.proofs.Common.{◌≡◌, ◌++◌, ◌∷◌, nat_lt, true, false, length, filter, sym, subst, ◌∙◌, ◌+◌, arith, rules, ℕ}
use Rattle.sg_model.specs.Lists.{is_in}
use Rattle.sg_answers.specs.Answers.{variable_text}
use Rattle.sg_answers.proofs.VariableLaws.{Written, none_written, more_written, same_written, all_written}
use Rattle.sg_answers.proofs.turn.put_variables.Goals as goal
use Rattle.sg_answers.proofs.turn.put_variables.Goals.{then-has+in_ok-put_marked, else-has}

pub loop-number-init : goal.loop-number-init
loop-number-init c = none_written c.args.graph.now c.args.vars c.args.out.now

pub loop-number-preserved : goal.loop-number-preserved
loop-number-preserved c =
    elim c.if-has.branch [
      | then-has+in_ok-put_marked w ↦
          (let there : is_in c.loop-number.number c.args.vars ≡ true = sym c.has.ensures ∙ w.if-has.true in
          let more : c.if-has.out ≡ c.loop-number.out ++ c.loop-number.mark ∷ variable_text c.args.graph.now c.loop-number.number = search rules in
          let comma : c.if-has.mark ≡ 44 = search rules in
          subst (λ (m : ℕ). Written c.args.graph.now (filter (λ x. nat_lt x (c.loop-number.number + 1)) c.args.vars) c.args.out.now c.if-has.out m) (sym comma)
          (more_written c.args.graph.now (length c.args.graph.now.variables) c.args.vars c.loop-number.number c.args.out.now c.loop-number.out c.if-has.out c.loop-number.mark c.requires there c.loop-number.invariant more))
      | else-has w ↦
          (let away : is_in c.loop-number.number c.args.vars ≡ false = sym c.has.ensures ∙ w.if-has.false in
          let out : c.if-has.out ≡ c.loop-number.out = search rules in
          let mark : c.if-has.mark ≡ c.loop-number.mark = search rules in
          rw (out, mark) (same_written c.args.graph.now (length c.args.graph.now.variables) c.args.vars c.loop-number.number c.args.out.now c.loop-number.out c.loop-number.mark c.requires away c.loop-number.invariant))
    ]

pub returns : goal.returns
returns c =
    all_written c.args.graph.now (length c.args.graph.now.variables) c.args.vars c.loop-number.number c.args.out.now c.loop-number.out c.loop-number.mark
    c.requires (omega arith) c.loop-number.invariant
