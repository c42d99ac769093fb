use Rattle.sg_report.proofs.reason.put_act_refusal.Goals as goal

pub returns-in-BadValues-clause-ok : goal.returns-in-BadValues-clause-ok
returns-in-BadValues-clause-ok c = rw c.in-BadValues.is c.put_variable.ensures.ok
