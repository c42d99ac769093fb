use Rattle.std.proofs.Common.{w32, rules}
use Rattle.sg_base.proofs.SetLaws.{members-with}
use Rattle.sg_base.proofs.sets.VarSet.with.Goals as goal

pub returns : goal.returns
returns c = rw (← c.var.view_is) (members-with w32 32 c.self.inside.0 c.var.inside.0 c.args.self.now c.self.view_is (search rules))
