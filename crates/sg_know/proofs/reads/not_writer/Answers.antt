use Rattle.std.proofs.Common.{arith}
use Rattle.sg_know.proofs.Bounds.{written_var_there}
use Rattle.sg_know.proofs.reads.not_writer.Goals as goal

pub returns : goal.returns
returns c x b = c.loop-number.invariant x (omega (arith, written_var_there c.args.graph.now c.args.label x c.vars-number-end.ensures.graph b.0)) b
