use Rattle.std.proofs.Common.{◌≡◌, length, take, ap, ◌∙◌, arith}
use Rattle.sg_report.specs.Reported.{reported_log}
use Rattle.sg_setting.specs.Replay.{run_of}
use Rattle.sg_drive.proofs.Counting.{all_taken, can_rise, counted_more, length_taken}
use Rattle.sg_drive.specs.Summary.{counts}
use Rattle.sg_drive.proofs.tally.Tally.of.Goals as goal

pub loop-index-init : goal.loop-index-init
loop-index-init c = c.new-tally.ensures c.args.graph.now

pub add-requires : goal.add-requires
add-requires c =
    let log = reported_log (run_of c.args.world.now).log in
    let reported = c.len-index-end.ensures.reported in
    let steps = c.len-index-end.ensures.steps in
    let few = c.requires.few in
    let t = c.loop-index-test.true in
    let long : length (take c.loop-index.index log) ≡ c.loop-index.index = length_taken c.loop-index.index log (omega (arith, reported, t)) in
    record { few = can_rise c.args.graph.now (take c.loop-index.index log) c.loop-index.tally c.loop-index.invariant (omega (arith, long, steps, few, t)) }

pub loop-index-preserved : goal.loop-index-preserved
loop-index-preserved c =
    let log = reported_log (run_of c.args.world.now).log in
    let reported = c.len-index-end.ensures.reported in
    let t = c.loop-index-test.true in
    counted_more c.args.graph.now log c.loop-index.index c.loop-index.tally c.add.new.self _ (omega (arith, reported, t)) c.loop-index.invariant c.outcome.ensures c.in_ok-add.ensures

pub returns : goal.returns
returns c =
    let log = reported_log (run_of c.args.world.now).log in
    let reported = c.len-index-end.ensures.reported in
    let last = c.loop-index-test.false in
    let end = c.loop-index.auto.index-end in
    c.loop-index.invariant ∙ ap (counts c.args.graph.now) (all_taken c.loop-index.index log (omega (arith, reported, last, end)))
