use Rattle.std.proofs.Common.{◌≡◌, ◌≤◌, ◌<◌, ◌+◌, ◌-◌, true, false, sym, ◌∙◌, arith}
use Rattle.sg_model.specs.Lists.{is_in}
use Rattle.sg_compose.proofs.Renaming.{gathered-none, gathered-there, gathered-away, gathered-all, number-below}
use Rattle.sg_compose.proofs.rename.shifted.Goals as goal
use Rattle.sg_compose.proofs.rename.shifted.Goals.{then-has, else-has}

pub loop-number-init : goal.loop-number-init
loop-number-init c = c.empty-found.ensures ∙ gathered-none 32 (λ x. c.args.count + x) c.args.vars (32 - c.args.count) c.requires

pub overflow_add-count : goal.overflow_add-count
overflow_add-count c =
    let low : c.loop-number.number < 32 - c.args.count = number-below 32 (λ x. c.args.count + x) c.args.vars (32 - c.args.count) c.requires c.loop-number.number (sym c.has.ensures ∙ c.if-has.true) in
    omega (arith, low)

pub with-found-requires : goal.with-found-requires
with-found-requires c =
    let low : c.loop-number.number < 32 - c.args.count = number-below 32 (λ x. c.args.count + x) c.args.vars (32 - c.args.count) c.requires c.loop-number.number (sym c.has.ensures ∙ c.if-has.true) in
    omega (arith, low)

pub loop-number-preserved : goal.loop-number-preserved
loop-number-preserved c = elim c.if-has.branch [
  | then-has w ↦
      (let there : is_in c.loop-number.number c.args.vars ≡ true = sym c.has.ensures ∙ w.if-has.true in
      w.found-is ∙ w.with-found.ensures
      ∙ gathered-there 32 (λ x. c.args.count + x) c.args.vars (32 - c.args.count) c.requires c.loop-number.number c.loop-number.found there c.loop-number.invariant)
  | else-has w ↦
      (let away : is_in c.loop-number.number c.args.vars ≡ false = sym c.has.ensures ∙ w.if-has.false in
      w.found-is ∙ gathered-away 32 (λ x. c.args.count + x) c.args.vars (32 - c.args.count) c.requires c.loop-number.number c.loop-number.found away c.loop-number.invariant)
]

pub returns : goal.returns
returns c =
    let all : 32 - c.args.count ≤ c.loop-number.number = omega (arith, c.loop-number-test.false) in
    gathered-all 32 (λ x. c.args.count + x) c.args.vars (32 - c.args.count) c.requires c.loop-number.number c.loop-number.found all c.loop-number.invariant
