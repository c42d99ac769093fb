use Rattle.std.proofs.Common.{ap, sym, arith, option_copied}
use Rattle.sg_model.specs.Names.{Name}
use Rattle.sg_sched.specs.Format.LineContents.{Committed}
use Rattle.sg_sched.specs.Format.Items.{variables_of}
use Rattle.sg_sched_text.proofs.RisingLaws.{undeclared, all_risen}
use Rattle.sg_sched_text.proofs.rising.variables_rise.Goals as goal

abbrev variable_of : Committed → Name
variable_of x = x.variable

pub returns-in_default : goal.returns-in_default
returns-in_default c = undeclared variable_of c.args.list.now (variables_of (option_copied c.args.graph)) c.loop-committed.committed-index c.committed-item.result c.loop-committed.rose c.loop-committed.least c.loop-committed.invariant.same
    (omega arith) c.committed-item.is c.committed.inside.variable (ap variable_of (sym c.committed.view_is)) c.in_default.ensures

pub returns : goal.returns
returns c = all_risen variable_of c.args.list.now (variables_of (option_copied c.args.graph)) c.loop-committed.committed-index c.loop-committed.rose c.loop-committed.least c.loop-committed.invariant.same (omega arith)
