use Rattle.std.proofs.Common.{◌∙◌}
use Rattle.sg_drive.proofs.Counting.{inserted}
use Rattle.sg_drive.proofs.tally.add_session.Goals as goal

pub returns : goal.returns
returns c = c.in_ok-insert.ensures.keys ∙ inserted c.args.sid c.args.sids.now.keys
