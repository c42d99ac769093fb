use Rattle.std.proofs.Common.{◌≡◌}
use Rattle.sg_args.specs.Model.{command_held}
use Rattle.sg_top.specs.File.{asking}
use Rattle.sg_top.proofs.OneFile.{works_on_file}
use Rattle.sg_top.proofs.program.work.Goals as goal

pub returns-in-Run-clause-works : goal.returns-in-Run-clause-works
returns-in-Run-clause-works g c = rw (c.in-Some.is, c.in-Run.is) c.run.ensures.runs

pub returns-in-Stream-clause-works : goal.returns-in-Stream-clause-works
returns-in-Stream-clause-works g c = rw (c.in-Some.is, c.in-Stream.is) c.run-in-Stream.ensures.runs

pub returns-in-Keep-clause-works : goal.returns-in-Keep-clause-works
returns-in-Keep-clause-works g c = rw (c.in-Some.is, c.in-Keep.is) c.keep.ensures.keeps

pub returns-then-over_tcp-clause-works : goal.returns-then-over_tcp-clause-works
returns-then-over_tcp-clause-works g c = rw (c.in-Some.is, c.in-Serve.is, c.if-over_tcp.true) c.serve.ensures.serves

pub returns-in-Serve-clause-works : goal.returns-in-Serve-clause-works
returns-in-Serve-clause-works g c = rw (c.in-Some.is, c.in-Serve.is, c.if-over_tcp.false) c.serve-in-Serve.ensures.serves

pub returns-in-Some-task_of-clause-works : goal.returns-in-Some-task_of-clause-works
returns-in-Some-task_of-clause-works g c =
    let one : command_held c.in-Some.command ≡ asking c.in-Some-task_of.task c.in-Some-task_of.file.now = c.in-Some-task_of.ensures.one in
    rw (c.in-Some.is, one) (works_on_file c.in-Some-task_of.task c.in-Some-task_of.file.now _ _ _ c.on_file.ensures.ends)
