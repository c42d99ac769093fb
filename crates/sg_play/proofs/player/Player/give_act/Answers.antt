use Rattle.std.proofs.Common.{rules, ◌≡◌, ◌+◌, length, Err, refl}
use Rattle.sg_play.specs.Around.{outside_of}
use Rattle.sg_play.specs.Played.{act_by, answer_in, chosen}
use Rattle.sg_play.specs.Posting.{frames_made}
use Rattle.sg_play.specs.Steps.{counted, frames_of}
use Rattle.sg_play.proofs.Acting.{act_given, act_stopped}
use Rattle.sg_play.proofs.Counting.{kept_on, kept_passed}
use Rattle.sg_play.proofs.player.Player.give_act.Goals as goal

pub returns-in_err-give-clause-progress : goal.returns-in_err-give-clause-progress
returns-in_err-give-clause-progress g c = let same : c.from_residual.result ≡ Err c.in_err-give.field-0.0 = search rules in λ p start random sid node did h.
    act_stopped start (outside_of g.L.Link g.O.Sink c.give.new.link c.give.new.out) c.args.self.now c.give.new.self random sid node p c.args.outcome.now (frames_made c.args.frame) did c.from_residual.result c.in_err-give.field-0.0 same
    (c.in_err-give.ensures.progress (chosen did.graph node did.choice p) (act_by sid did.choice p.random) start did.asked refl h)

pub returns-clause-progress : goal.returns-clause-progress
returns-clause-progress g c = λ p start random sid node did h.
    act_given start (outside_of g.L.Link g.O.Sink c.give.new.link c.give.new.out) c.args.self.now c.give.new.self random sid node p c.args.outcome.now (frames_made c.args.frame) did c.was_sent.result
    (c.in_ok-give.ensures.progress (chosen did.graph node did.choice p) (act_by sid did.choice p.random) start did.asked refl h)
    (c.was_sent.ensures (counted (length (frames_of p.steps) + 1)) (answer_in p (act_by sid did.choice p.random)) did.asked.is_reported)

pub returns-in_err-give-clause-kept : goal.returns-in_err-give-clause-kept
returns-in_err-give-clause-kept g c = let same : c.from_residual.result ≡ Err c.in_err-give.field-0.0 = search rules in
    kept_passed same c.in_err-give.ensures.kept

pub returns-clause-kept : goal.returns-clause-kept
returns-clause-kept g c = kept_on _ c.in_ok-give.ensures.kept
