use Rattle.std.proofs.Common.{◌≡◌, ◌∙◌, ◌++◌, ℕ, List, ap, sym, map, [], append-nil, arith}
use Rattle.sg_base.specs.declared.value.Value.{Value}
use Rattle.sg_base.specs.Model.{value_of}
use Rattle.sg_model.specs.Values.{Value as AValue}
use Rattle.sg_sched_text.specs.Numbers.{numbered, from_number}
use Rattle.sg_sched_text.proofs.ValueLaws.{at_end}
use Rattle.sg_sched_text.proofs.values.in_order.Goals as goal

pub returns : goal.returns
returns c =
    let m = numbered c.args.numbers.now c.args.values.now in
    let made : List (ℕ × AValue) = map (λ (w : ℕ × Value). (w.0, value_of w.1)) c.loop-number.found in
    let last : c.loop-number.number ≡ 32 = omega arith in
    let none : from_number c.loop-number.number m ≡ [] = ap (λ x. from_number x m) last ∙ at_end m in
    sym (c.loop-number.invariant ∙ ap (λ ws. made ++ ws) none ∙ append-nil made)
