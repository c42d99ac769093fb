use Rattle.sg_base.proofs.SetLaws.{tested, untested}
use Rattle.sg_base.proofs.sets.RoleSet.has.Goals as goal

pub returns-then-role-lt16 : goal.returns-then-role-lt16
returns-then-role-lt16 c = rw (← c.role.view_is) (tested 16 c.self.inside.0 c.role.inside.0 c.args.self.now c.self.view_is c.if-role-lt16.true)

pub returns-else-role-lt16 : goal.returns-else-role-lt16
returns-else-role-lt16 c = rw (← c.role.view_is) (untested 16 c.self.inside.0 c.role.inside.0 c.args.self.now c.self.view_is c.if-role-lt16.false)
