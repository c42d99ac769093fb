use Rattle.sg_report.proofs.reason.put_delivery_refusal.Goals as goal

pub returns-in-BadOpening-clause-ok : goal.returns-in-BadOpening-clause-ok
returns-in-BadOpening-clause-ok c = rw c.in-BadOpening.is c.put_variable.ensures.ok
