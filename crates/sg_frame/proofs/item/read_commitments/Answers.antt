use Rattle.std.proofs.Common.{ℕ, List}
use Rattle.std.proofs.lemmas.Result.{err_from_is_err_and}
use Rattle.sg_protocol.specs.Reading.{rising_times, read_pair, any_bytes}
use Rattle.sg_frame.specs.Reads.{left}
use Rattle.sg_frame.proofs.Loops.{rising_more, rising_stop}
use Rattle.sg_frame.proofs.item.read_commitments.Goals as goal

pub returns-in_err-var : goal.returns-in_err-var
returns-in_err-var c =
    let p = err_from_is_err_and c.from_residual.result c.from_residual.ensures.1 in
    rw (p.1, p.2) (rising_stop c.in_err-var.field-0.0 (λ (p : ℕ × List ℕ). p.0) (read_pair 31 (any_bytes 32)) c.commitments.delta c.args.count c.commitments.counter c.commitments.least c.commitments.input
    (rising_times (λ (p : ℕ × List ℕ). p.0) c.args.count 0 (read_pair 31 (any_bytes 32)) c.args.input.now.at (left c.args.input.now)) c.commitments-test.true c.in_err-var.ensures.reads c.commitments.invariant)

pub commitments-preserved : goal.commitments-preserved
commitments-preserved c =
    rw (c.in_ok-push.ensures.ok, c.var.view_is) (rising_more (λ (p : ℕ × List ℕ). p.0) (read_pair 31 (any_bytes 32)) c.commitments.delta c.args.count c.commitments.counter c.commitments.least
    c.commitments.input c.read_commitment.new.input (c.in_ok-var.var, c.in_ok-var.commitment)
    (rising_times (λ (p : ℕ × List ℕ). p.0) c.args.count 0 (read_pair 31 (any_bytes 32)) c.args.input.now.at (left c.args.input.now)) c.commitments-test.true c.in_ok-var.ensures.reads c.commitments.invariant)
