use Rattle.std.proofs.Common.{arith}
use Rattle.std.proofs.lemmas.Result.{err_from_is_err_and}
use Rattle.sg_protocol.specs.Reading.{times, read_name}
use Rattle.sg_frame.specs.Reads.{left}
use Rattle.sg_frame.proofs.Loops.{times_more, times_stop}
use Rattle.sg_frame.proofs.cast.read_names.Goals as goal

pub returns-in_err-name-clause-reads : goal.returns-in_err-name-clause-reads
returns-in_err-name-clause-reads c =
    let p = err_from_is_err_and c.from_residual.result c.from_residual.ensures.1 in
    rw (p.1, p.2) (times_stop c.in_err-name.field-0.0 read_name c.names.names.items c.args.count c.names.counter c.names.input
    (times c.args.count read_name c.args.input.now.at (left c.args.input.now)) c.names-test.true c.in_err-name.ensures c.names.invariant.so_far)

pub names-preserved : goal.names-preserved
names-preserved c = record {
  so_far = rw c.in_ok-push.ensures.items (times_more read_name c.names.names.items c.args.count c.names.counter c.names.input c.read_name.new.input c.in_ok-name.name
      (times c.args.count read_name c.args.input.now.at (left c.args.input.now)) c.names-test.true c.in_ok-name.ensures c.names.invariant.so_far);
  many = omega (arith, c.in_ok-push.ensures.len, c.names.invariant.many);
}
