use Rattle.std.proofs.Common.{ap, sym, arith, option_copied}
use Rattle.sg_model.specs.Names.{Name}
use Rattle.sg_sched.specs.Format.LineContents.{TagSource}
use Rattle.sg_sched.specs.Format.Items.{roles_of}
use Rattle.sg_sched_text.proofs.RisingLaws.{undeclared, all_risen}
use Rattle.sg_sched_text.proofs.rising.roles_rise.Goals as goal

abbrev role_of : Name × TagSource → Name
role_of x = x.0

pub returns-in_default : goal.returns-in_default
returns-in_default c = undeclared role_of c.args.list.now (roles_of (option_copied c.args.graph)) c.loop-tag.tag-index c.tag-item.result c.loop-tag.rose c.loop-tag.least c.loop-tag.invariant.same
    (omega arith) c.tag-item.is c.tag.inside.role (ap role_of (sym c.tag.view_is)) c.in_default.ensures

pub returns : goal.returns
returns c = all_risen role_of c.args.list.now (roles_of (option_copied c.args.graph)) c.loop-tag.tag-index c.loop-tag.rose c.loop-tag.least c.loop-tag.invariant.same (omega arith)
