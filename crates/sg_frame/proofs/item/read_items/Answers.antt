use Rattle.std.proofs.lemmas.Result.{err_from_is_err_and}
use Rattle.sg_protocol.specs.Reading.{times, read_item}
use Rattle.sg_frame.specs.Reads.{left}
use Rattle.sg_frame.proofs.Loops.{times_more, times_stop}
use Rattle.sg_frame.proofs.item.read_items.Goals as goal

pub returns-in_err-item : goal.returns-in_err-item
returns-in_err-item c =
    let p = err_from_is_err_and c.from_residual.result c.from_residual.ensures.1 in
    rw (p.1, p.2) (times_stop c.in_err-item.field-0.0 (read_item c.args.version) c.items.items c.args.count c.items.counter c.items.input
    (times c.args.count (read_item c.args.version) c.args.input.now.at (left c.args.input.now)) c.items-test.true c.in_err-item.ensures c.items.invariant)

pub items-preserved : goal.items-preserved
items-preserved c =
    rw c.in_ok-push.ensures.ok (times_more (read_item c.args.version) c.items.items c.args.count c.items.counter c.items.input c.read_item.new.input c.in_ok-item.item
    (times c.args.count (read_item c.args.version) c.args.input.now.at (left c.args.input.now)) c.items-test.true c.in_ok-item.ensures c.items.invariant)
