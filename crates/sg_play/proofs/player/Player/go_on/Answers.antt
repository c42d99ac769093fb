use Rattle.std.proofs.Common.{rules, ◌≡◌, ◌∙◌, Err, ap}
use Rattle.sg_report.specs.Reported.{sid_reported}
use Rattle.sg_play.specs.Around.{outside_of}
use Rattle.sg_play.specs.Played.{answer_in, called}
use Rattle.sg_play.specs.Representation.{KeepsJoins}
use Rattle.sg_play.proofs.Counting.{kept_passed, kept_then}
use Rattle.sg_play.proofs.Keeping.{keeps_same, keeps_then}
use Rattle.sg_play.proofs.Reporting.{reported_given}
use Rattle.sg_play.proofs.Results.{mapped}
use Rattle.sg_play.proofs.Running.{call_failed, turn_given}
use Rattle.sg_play.proofs.player.Player.go_on.Goals as goal

pub returns-in_err-give-clause-progress : goal.returns-in_err-give-clause-progress
returns-in_err-give-clause-progress g c = let same : c.from_residual.result ≡ Err c.in_err-give.field-0.0 = search rules in λ p k start asked stays w h.
    call_failed start (outside_of g.L.Link g.O.Sink c.give.new.link c.give.new.out) c.give.new.self (g.R.Fresh.random c.args.fresh.now) p k c.from_residual.result c.in_err-give.field-0.0 same
    (c.in_err-give.ensures.progress p k start asked stays h)

pub returns-clause-progress : goal.returns-clause-progress
returns-clause-progress g c = λ p k start asked stays w h.
    let given = c.in_ok-give.ensures.progress p k start asked stays h in
    let sid = c.sid_reported.ensures.reported ∙ ap sid_reported asked.is_reported ∙ reported_given _ (answer_in p k) in
    turn_given start (outside_of g.L.Link g.O.Sink c.play_if.new.link c.play_if.new.out) c.play_if.new.self (g.R.Fresh.random c.play_if.new.fresh) p k c.sid_reported.result c.play_if.result sid
    (c.play_if.ensures.progress (called p k) start given.0 w given.1)

pub returns-clause-joins : goal.returns-clause-joins
returns-clause-joins g c =
    let old = c.args.self.now.node in
    let given = c.give.new.self.node in
    mapped c.play_if.result (KeepsJoins given c.play_if.new.self.node) (KeepsJoins old c.play_if.new.self.node) (λ h. keeps_then old given c.play_if.new.self.node (keeps_same old given c.in_ok-give.ensures.node) h) c.play_if.ensures.joins

pub returns-in_err-give-clause-kept : goal.returns-in_err-give-clause-kept
returns-in_err-give-clause-kept g c = let same : c.from_residual.result ≡ Err c.in_err-give.field-0.0 = search rules in
    kept_passed same c.in_err-give.ensures.kept

pub returns-clause-kept : goal.returns-clause-kept
returns-clause-kept g c = kept_then c.in_ok-give.ensures.kept c.play_if.ensures.kept

pub returns-clause-programs : goal.returns-clause-programs
returns-clause-programs g c = mapped c.play_if.result _ _ (λ h. h ∙ c.in_ok-give.ensures.programs) c.play_if.ensures.programs
