use Rattle.std.proofs.Common.{◌-◌, ◌≤◌, length}
use Rattle.sg_know.specs.States.{AreReached, AreThere, Has, begin}
use Rattle.sg_know.proofs.Reaching.{AreFollowed}
use Rattle.sg_know.proofs.closure.closure.Given as goal

abbrev pub invariant-loop-at : goal.invariant-loop-at
invariant-loop-at l = record {
  reached : AreReached l.graph l.role l.var l.states;
  nodes : AreThere l.graph l.states;
  start : Has l.states begin.state;
  followed : AreFollowed l.graph l.role l.var l.at l.states;
  within : l.at ≤ length l.states;
}

abbrev pub decreases-loop-at : goal.decreases-loop-at
decreases-loop-at l = 768 - l.at
