use Rattle.std.proofs.Common.{sym, ◌∙◌}
use Rattle.sg_drive.proofs.Written.{rest_with, rest_without}
use Rattle.sg_world.proofs.ReportText.{hold_is}
use Rattle.sg_drive.proofs.summary_text.put_rest.Goals as goal

pub put_walks-requires : goal.put_walks-requires
put_walks-requires c = hold_is c.args.world.now (sym c.in_ok-put_premises.ensures.hold ∙ c.if-branch.true)

pub returns-then-branch : goal.returns-then-branch
returns-then-branch c = rest_with c.put_walks.result c.args.world.now c.args.out.now c.put_premises.new.out c.put_walks.new.out c.in_ok-put_premises.ensures.text (sym c.in_ok-put_premises.ensures.hold ∙ c.if-branch.true) c.put_walks.ensures

pub returns-else-branch : goal.returns-else-branch
returns-else-branch c = rest_without c.args.world.now c.args.out.now c.put_premises.new.out c.in_ok-put_premises.ensures.text (sym c.in_ok-put_premises.ensures.hold ∙ c.if-branch.false)
