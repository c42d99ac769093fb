use Rattle.sg_play.proofs.Sent.{was_not, was_sent}
use Rattle.sg_play.proofs.turn.was_sent.Goals as goal

pub returns-in-Sent : goal.returns-in-Sent
returns-in-Sent c = λ k a reported. was_sent c.args.outcome.now _ _ _ k a c.in-Sent.is reported

pub returns-in_default : goal.returns-in_default
returns-in_default c = λ k a reported. was_not c.args.outcome.now k a c.in_default.not-Sent reported
