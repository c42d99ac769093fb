use Rattle.std.proofs.Common.{length}
use Rattle.sg_protocol.specs.Graph.{AreNumbers}
use Rattle.sg_plan.proofs.Aimed.{IsSetBelow}
use Rattle.sg_plan.proofs.plan.targets_of.Given as goal

abbrev pub invariant-loop-number : goal.invariant-loop-number
invariant-loop-number l = record {
  numbers : AreNumbers (length l.graph.roles) l.set;
  below : IsSetBelow l.graph l.fn.label l.number l.set;
}
