use Rattle.std.proofs.Common.{◌≡◌, ℕ, true, false, Some, sym, ap, ◌∙◌, arith}
use Rattle.sg_protocol.specs.Acting.{is_bad}
use Rattle.sg_walk.specs.Model.{values_of}
use Rattle.sg_role.proofs.ValueLaws.{first_here, first_later, first_end, first_start}
use Rattle.sg_role.proofs.values.bad_value.Goals as goal

pub loop-number-init : goal.loop-number-init
loop-number-init c = first_start c.args.graph.now c.args.label (values_of c.args.values.now)

pub returns-then-is_bad : goal.returns-then-is_bad
returns-then-is_bad c =
    let p = is_bad c.args.graph.now c.args.label (values_of c.args.values.now) in
    let bad : p c.loop-number.number ≡ true = ap p (sym c.numbered-var.ensures) ∙ sym c.is_bad.ensures ∙ c.if-is_bad.true in
    ap (λ (x : ℕ). Some x) c.numbered-var.ensures ∙ sym (first_here p c.loop-number.number (omega (arith, c.loop-number-test.true, c.bound-most.ensures.most)) bad) ∙ c.loop-number.invariant

pub loop-number-preserved : goal.loop-number-preserved
loop-number-preserved c =
    let p = is_bad c.args.graph.now c.args.label (values_of c.args.values.now) in
    let good : p c.loop-number.number ≡ false = ap p (sym c.numbered-var.ensures) ∙ sym c.is_bad.ensures ∙ c.if-is_bad.false in
    sym (first_later p c.loop-number.number (omega (arith, c.loop-number-test.true, c.bound-most.ensures.most)) good) ∙ c.loop-number.invariant

pub returns : goal.returns
returns c =
    let p = is_bad c.args.graph.now c.args.label (values_of c.args.values.now) in
    sym (first_end p c.loop-number.number (λ x a b. c.bound-most.ensures.none x (omega (arith, a, c.loop-number-test.false)) b)) ∙ c.loop-number.invariant
