use Rattle.std.proofs.Common.{w16, rules}
use Rattle.sg_base.proofs.SetLaws.{members-with}
use Rattle.sg_base.proofs.sets.RoleSet.with.Goals as goal

pub returns : goal.returns
returns c = rw (← c.role.view_is) (members-with w16 16 c.self.inside.0 c.role.inside.0 c.args.self.now c.self.view_is (search rules))
