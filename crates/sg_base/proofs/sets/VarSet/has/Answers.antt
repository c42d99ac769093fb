use Rattle.sg_base.proofs.SetLaws.{tested, untested}
use Rattle.sg_base.proofs.sets.VarSet.has.Goals as goal

pub returns-then-var-lt32 : goal.returns-then-var-lt32
returns-then-var-lt32 c = rw (← c.var.view_is) (tested 32 c.self.inside.0 c.var.inside.0 c.args.self.now c.self.view_is c.if-var-lt32.true)

pub returns-else-var-lt32 : goal.returns-else-var-lt32
returns-else-var-lt32 c = rw (← c.var.view_is) (untested 32 c.self.inside.0 c.var.inside.0 c.args.self.now c.self.view_is c.if-var-lt32.false)
