use Rattle.std.proofs.Common.{sym, ◌∙◌}
use Rattle.sg_world.proofs.ReportText.{hold_is, on_ok, report_with}
use Rattle.sg_world.proofs.world.World.put_rest.Goals as goal

pub put_walks-requires : goal.put_walks-requires
put_walks-requires c = hold_is c.args.self.now (sym c.in_ok-put_premises.ensures.hold ∙ c.if-branch.true)

pub returns-then-branch : goal.returns-then-branch
returns-then-branch c = λ e lines.
    on_ok c.put_walks.result (report_with c.args.self.now c.args.out.now c.put_premises.new.out c.put_walks.new.out lines c.in_ok-put_premises.ensures.text (sym c.in_ok-put_premises.ensures.hold ∙ c.if-branch.true)) (c.put_walks.ensures e)
