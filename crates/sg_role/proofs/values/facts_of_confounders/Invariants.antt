use Rattle.std.proofs.Common.{take}
use Rattle.std.specs.List.{AllByRecursion}
use Rattle.sg_model.specs.Bytes.{AreBytes}
use Rattle.sg_role.proofs.values.facts_of_confounders.Given as goal

abbrev pub invariant-loop-at : goal.invariant-loop-at
invariant-loop-at l = AllByRecursion (AreBytes 16) (take l.at l.confounders)
