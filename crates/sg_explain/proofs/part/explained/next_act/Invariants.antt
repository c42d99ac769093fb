use Rattle.std.proofs.Common.{◌≡◌}
use Rattle.sg_explain.specs.Matching.{acts_from}
use Rattle.sg_explain.proofs.part.explained.next_act.Given as goal

abbrev pub invariant-loop-at : goal.invariant-loop-at
invariant-loop-at l = acts_from l.events l.from ≡ acts_from l.events l.at
