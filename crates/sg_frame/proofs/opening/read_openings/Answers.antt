use Rattle.std.proofs.lemmas.Result.{err_from_is_err_and}
use Rattle.sg_model.specs.Values.{Opening}
use Rattle.sg_protocol.specs.Reading.{rising_times, read_opening}
use Rattle.sg_frame.specs.Reads.{left}
use Rattle.sg_frame.proofs.Loops.{rising_more, rising_stop}
use Rattle.sg_frame.proofs.opening.read_openings.Goals as goal

pub returns-in_err-opening : goal.returns-in_err-opening
returns-in_err-opening c =
    let p = err_from_is_err_and c.from_residual.result c.from_residual.ensures.1 in
    rw (p.1, p.2) (rising_stop c.in_err-opening.field-0.0 (λ (o : Opening). o.variable) read_opening c.openings.openings c.args.count c.openings.counter c.openings.least c.openings.input
    (rising_times (λ (o : Opening). o.variable) c.args.count 0 read_opening c.args.input.now.at (left c.args.input.now)) c.openings-test.true c.in_err-opening.ensures.reads c.openings.invariant)

pub openings-preserved : goal.openings-preserved
openings-preserved c =
    rw (c.in_ok-push.ensures.ok, c.var_of-least.ensures) (rising_more (λ (o : Opening). o.variable) read_opening c.openings.openings c.args.count c.openings.counter c.openings.least
    c.openings.input c.read_opening.new.input c.in_ok-opening.opening
    (rising_times (λ (o : Opening). o.variable) c.args.count 0 read_opening c.args.input.now.at (left c.args.input.now)) c.openings-test.true c.in_ok-opening.ensures.reads c.openings.invariant)
