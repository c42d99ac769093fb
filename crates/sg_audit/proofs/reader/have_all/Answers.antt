use Rattle.std.proofs.Common.{◌∙◌, sym, arith}
use Rattle.sg_model.specs.Lists.{is_in}
use Rattle.sg_audit.proofs.Ranges.{end_of, fails, passes}
use Rattle.sg_audit.proofs.reader.have_all.Goals as goal

pub loop-number-preserved : goal.loop-number-preserved
loop-number-preserved c = c.loop-number.invariant ∙ passes (λ r. is_in r c.args.roles) c.loop-number.number c.args.count (omega arith) (sym c.has.ensures ∙ c.if-not-has.false)

pub returns-then-not-has : goal.returns-then-not-has
returns-then-not-has c = sym (c.loop-number.invariant ∙ fails (λ r. is_in r c.args.roles) c.loop-number.number c.args.count (omega arith) (sym c.has.ensures ∙ c.if-not-has.true))

pub returns : goal.returns
returns c = sym (c.loop-number.invariant ∙ end_of (λ r. is_in r c.args.roles) c.loop-number.number c.args.count (omega arith))
