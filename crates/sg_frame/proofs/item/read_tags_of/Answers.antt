use Rattle.std.proofs.Common.{ℕ, List}
use Rattle.std.proofs.lemmas.Result.{err_from_is_err_and}
use Rattle.sg_protocol.specs.Reading.{rising_times, read_pair, read_tag}
use Rattle.sg_frame.specs.Reads.{left}
use Rattle.sg_frame.proofs.Loops.{rising_more, rising_stop}
use Rattle.sg_frame.proofs.item.read_tags_of.Goals as goal

pub returns-in_err-role : goal.returns-in_err-role
returns-in_err-role c =
    let p = err_from_is_err_and c.from_residual.result c.from_residual.ensures.1 in
    rw (p.1, p.2) (rising_stop c.in_err-role.field-0.0 (λ (p : ℕ × List ℕ). p.0) (read_pair 15 (read_tag c.args.version)) c.tags.tags c.args.count c.tags.counter c.tags.least c.tags.input
    (rising_times (λ (p : ℕ × List ℕ). p.0) c.args.count 0 (read_pair 15 (read_tag c.args.version)) c.args.input.now.at (left c.args.input.now)) c.tags-test.true c.in_err-role.ensures.reads c.tags.invariant)

pub tags-preserved : goal.tags-preserved
tags-preserved c =
    rw (c.in_ok-push.ensures.ok, c.role.view_is) (rising_more (λ (p : ℕ × List ℕ). p.0) (read_pair 15 (read_tag c.args.version)) c.tags.tags c.args.count c.tags.counter c.tags.least
    c.tags.input c.read_tag_for.new.input (c.in_ok-role.role, c.in_ok-role.tag)
    (rising_times (λ (p : ℕ × List ℕ). p.0) c.args.count 0 (read_pair 15 (read_tag c.args.version)) c.args.input.now.at (left c.args.input.now)) c.tags-test.true c.in_ok-role.ensures.reads c.tags.invariant)
