use Rattle.std.proofs.Common.{rules, ◌≡◌, take, Err, ◌∙◌, arith}
use Rattle.sg_play.specs.Ends.{Outside}
use Rattle.sg_play.specs.Played.{Play, all_deliveries, all_starts}
use Rattle.sg_play.proofs.Coming.{ended_on, failed}
use Rattle.sg_play.proofs.Counting.{counted_then, passed_on}
use Rattle.sg_play.proofs.Extends.{by_deliveries}
use Rattle.sg_play.proofs.Results.{mapped}
use Rattle.sg_play.proofs.player.Player.play_all.Goals as goal

pub returns-in_err-start_all-clause-progress : goal.returns-in_err-start_all-clause-progress
returns-in_err-start_all-clause-progress g c = let same : c.from_residual.result ≡ Err c.in_err-start_all.field-0.0 = search rules in λ deliveries reported p start s w h.
    let now : Outside = record { written = g.O.Sink.written c.start_all.new.out; sent = g.L.Link.sent c.start_all.new.link } in
    let started : Play = all_starts p c.args.starts.now in
    let come = take c.args.most deliveries in
    failed start now c.start_all.new.self (g.R.Fresh.random c.start_all.new.fresh) (all_deliveries started come) c.from_residual.result c.in_err-start_all.field-0.0 same
    (ended_on start now started (all_deliveries started come) c.in_err-start_all.field-0.0 (by_deliveries started come) (c.in_err-start_all.ensures.progress p start s w h))

pub returns-clause-progress : goal.returns-clause-progress
returns-clause-progress g c = λ deliveries reported p start s w h.
    let started = c.in_ok-start_all.ensures.progress p start s w h in
    c.take_all.ensures.progress deliveries (c.in_ok-start_all.ensures.kept.deliveries ∙ reported) (all_starts p c.args.starts.now) start started.0.0 started.1 started.0.1

pub returns-clause-left : goal.returns-clause-left
returns-clause-left g c = mapped c.take_all.result _ _ (λ left deliveries reported. left deliveries (c.in_ok-start_all.ensures.kept.deliveries ∙ reported)) c.take_all.ensures.left

pub returns-in_err-start_all-clause-at_most : goal.returns-in_err-start_all-clause-at_most
returns-in_err-start_all-clause-at_most g c = λ deliveries reported. (0, omega arith, c.in_err-start_all.ensures.kept.deliveries ∙ reported)

pub returns-clause-at_most : goal.returns-clause-at_most
returns-clause-at_most g c = λ deliveries reported. c.take_all.ensures.at_most deliveries (c.in_ok-start_all.ensures.kept.deliveries ∙ reported)

pub returns-in_err-start_all-clause-faults : goal.returns-in_err-start_all-clause-faults
returns-in_err-start_all-clause-faults g c = let same : c.from_residual.result ≡ Err c.in_err-start_all.field-0.0 = search rules in
    passed_on same c.in_err-start_all.ensures.kept.faults

pub returns-clause-faults : goal.returns-clause-faults
returns-clause-faults g c = counted_then c.in_ok-start_all.ensures.kept.faults c.take_all.ensures.faults

pub returns-in_err-start_all-clause-link_bound : goal.returns-in_err-start_all-clause-link_bound
returns-in_err-start_all-clause-link_bound g c = c.in_err-start_all.ensures.kept.bound

pub returns-clause-link_bound : goal.returns-clause-link_bound
returns-clause-link_bound g c = c.take_all.ensures.link_bound ∙ c.in_ok-start_all.ensures.kept.bound
