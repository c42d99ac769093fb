use Rattle.std.proofs.Common.{arith}
use Rattle.std.proofs.lemmas.Result.{err_from_is_err_and}
use Rattle.sg_sched.specs.Format.StepsHeld.{step_of}
use Rattle.sg_world.proofs.ByName.{indexed}
use Rattle.sg_world.proofs.take.admit.Goals as goal

pub returns-then-bytes-gt-MOST_BYTES-clause-refused : goal.returns-then-bytes-gt-MOST_BYTES-clause-refused
returns-then-bytes-gt-MOST_BYTES-clause-refused c = let at = indexed c.args.nodes.now.entries (step_of c.args.step.now) c.in_ok-index.index c.in_ok-index.ensures.index in let more = c.if-bytes-gt-MOST_BYTES.true in (at, (let e = c.size-bytes.ensures in omega (arith, e, more)), c.size-bytes.ensures)

pub returns-in_err-index-clause-refused : goal.returns-in_err-index-clause-refused
returns-in_err-index-clause-refused c = let p = err_from_is_err_and c.from_residual.result c.from_residual.ensures.1 in rw (p.1, p.2) (c.in_err-index.ensures.refused c.args.history.now.done.size)
