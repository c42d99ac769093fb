use Rattle.std.proofs.Common.{◌<◌, ℕ, List, ◌++◌, length}
use Rattle.std.specs.Prelude.{reverse}
use Rattle.sg_know.specs.States.{IsPath}
use Rattle.sg_know.proofs.states.States.path.Given as goal

abbrev pub invariant-loop-step : goal.invariant-loop-step
invariant-loop-step l = record {
  within : l.at < length l.self;
  joins : (before : List ℕ) → IsPath l.self l.at before → IsPath l.self l.index (before ++ reverse l.labels.items);
}

abbrev pub decreases-loop-step : goal.decreases-loop-step
decreases-loop-step l = l.at
