use Rattle.std.proofs.Common.{rules, ◌≡◌, take, Err, refl, ◌∙◌}
use Rattle.sg_play.specs.Ends.{Outside}
use Rattle.sg_play.specs.Played.{Play, all_starts}
use Rattle.sg_play.proofs.Counting.{kept_passed, kept_then, none_kept}
use Rattle.sg_play.proofs.Running.{start_failed, start_held, start_more, starts_done}
use Rattle.sg_play.proofs.player.Player.start_all.Goals as goal

pub loop-start-init : goal.loop-start-init
loop-start-init g c = record { kept = none_kept tt; progress = λ p start s w h. ((s, h), w); programs = refl }

pub loop-start-preserved : goal.loop-start-preserved
loop-start-preserved g c =
    let inv = c.loop-start.invariant in
    let one = c.in_ok-start_one.ensures in
    record {
      kept = kept_then inv.kept one.kept;
      progress = λ p start s w h.
          let now : Outside = record { written = g.O.Sink.written c.start_one.new.out; sent = g.L.Link.sent c.start_one.new.link } in
          let so_far : Play = all_starts p (take c.loop-start.start-index c.args.starts.now) in
          let before = inv.progress p start s w h in
          start_more start now c.start_one.new.self (g.R.Fresh.random c.start_one.new.fresh) p c.args.starts.now c.loop-start.start-index c.start-item.result c.loop-start-test.true c.start-item.is
          (one.progress so_far start before.0.0 before.1 before.0.1);
      programs = one.programs ∙ inv.programs;
    }

pub start_one-requires : goal.start_one-requires
start_one-requires g c =
    start_held c.args.self.now.programs.now c.loop-start.self.programs.now c.args.starts.now c.loop-start.start-index c.start-item.result c.requires c.loop-start.invariant.programs c.loop-start-test.true c.start-item.is

pub returns-in_err-start_one-clause-progress : goal.returns-in_err-start_one-clause-progress
returns-in_err-start_one-clause-progress g c = let same : c.from_residual.result ≡ Err c.in_err-start_one.field-0.0 = search rules in λ p start s w h.
    let now : Outside = record { written = g.O.Sink.written c.start_one.new.out; sent = g.L.Link.sent c.start_one.new.link } in
    let so_far : Play = all_starts p (take c.loop-start.start-index c.args.starts.now) in
    let before = c.loop-start.invariant.progress p start s w h in
    start_failed start now c.start_one.new.self (g.R.Fresh.random c.start_one.new.fresh) p c.args.starts.now c.loop-start.start-index c.start-item.result c.from_residual.result c.in_err-start_one.field-0.0 c.loop-start-test.true c.start-item.is same
    (c.in_err-start_one.ensures.progress so_far start before.0.0 before.1 before.0.1)

pub returns-clause-progress : goal.returns-clause-progress
returns-clause-progress g c = λ p start s w h.
    let now : Outside = record { written = g.O.Sink.written c.loop-start.out; sent = g.L.Link.sent c.loop-start.link } in
    starts_done start now c.loop-start.self (g.R.Fresh.random c.loop-start.fresh) p c.args.starts.now c.loop-start.start-index c.loop-start-test.false (c.loop-start.invariant.progress p start s w h)

pub returns-in_err-start_one-clause-kept : goal.returns-in_err-start_one-clause-kept
returns-in_err-start_one-clause-kept g c = let same : c.from_residual.result ≡ Err c.in_err-start_one.field-0.0 = search rules in
    kept_passed same (kept_then c.loop-start.invariant.kept c.in_err-start_one.ensures.kept)
