use Rattle.std.proofs.Common.{◌≡◌, ◌+◌, true, false, sym, ◌∙◌, subst, arith, rules, eq-eqb}
use Rattle.std.proofs.lemmas.Bool.{eqb-true}
use Rattle.std.specs.Prelude.{length}
use Rattle.sg_model.specs.Lists.{is_in}
use Rattle.sg_explain.proofs.Pairs.{Keyed, Keyed-init, Keyed-pass, Keyed-other, Keyed-step, Keyed-end}
use Rattle.sg_explain.proofs.part.pairs.has_keys.Goals as goal
use Rattle.sg_explain.proofs.part.pairs.has_keys.Goals.{then-has+else-not-has_key, else-has}

pub loop-number-init : goal.loop-number-init
loop-number-init g c = Keyed-init c.args.pairs.now c.args.vars

pub returns-then-not-has_key : goal.returns-then-not-has_key
returns-then-not-has_key g c = (
  λ t. absurd (cc),
  λ e. absurd (Keyed-other 32 c.args.pairs.now c.args.vars c.loop-number.index c.loop-number.number c.requires (sym c.has.ensures ∙ c.if-has.true)
      (sym c.has_key.ensures.key ∙ c.if-not-has_key.true) c.loop-number.invariant e),
)

pub loop-number-preserved : goal.loop-number-preserved
loop-number-preserved g c =
    elim c.if-has.branch [
      | then-has+else-not-has_key w ↦
          (let there : is_in c.loop-number.number c.args.vars ≡ true = sym c.has.ensures ∙ w.if-has.true in
          subst (λ p. Keyed c.args.pairs.now c.args.vars p (c.loop-number.number + 1)) (sym w.index-is)
          (Keyed-step 32 c.args.pairs.now c.args.vars c.loop-number.index c.loop-number.number c.requires there (w.has_key.ensures.there (search rules)) (sym w.has_key.ensures.key ∙ w.if-not-has_key.false)
          c.loop-number.invariant))
      | else-has w ↦
          (let away : is_in c.loop-number.number c.args.vars ≡ false = sym c.has.ensures ∙ w.if-has.false in
          subst (λ p. Keyed c.args.pairs.now c.args.vars p (c.loop-number.number + 1)) (sym w.index-is)
          (Keyed-pass c.args.pairs.now c.args.vars c.loop-number.index c.loop-number.number away c.loop-number.invariant))
    ]

pub returns : goal.returns
returns g c =
    let number : c.loop-number.number ≡ 32 = omega arith in
    let k = subst (λ n. Keyed c.args.pairs.now c.args.vars c.loop-number.index n) number c.loop-number.invariant in
    let whole = Keyed-end 32 c.args.pairs.now c.args.vars c.loop-number.index c.requires k in
    (λ t. whole.0 (eqb-true c.loop-number.index (length c.args.pairs.now) t), λ e. eq-eqb c.loop-number.index (length c.args.pairs.now) (whole.1 e))
