use Rattle.std.proofs.Common.{◌≡◌, ◌++◌, List, length}
use Rattle.sg_model.specs.Values.{Opening}
use Rattle.sg_role.specs.Stepping.{openings_after}
use Rattle.sg_role.proofs.evidence.take_over.Given as goal

abbrev pub invariant-loop-opening : goal.invariant-loop-opening
invariant-loop-opening l = (os : List Opening) × (l.written.items ++ os ≡ l.initial.written.items) × (l.openings.items ≡ openings_after (length l.initial.openings.items) l.initial.openings.items os)

abbrev pub decreases-loop-opening : goal.decreases-loop-opening
decreases-loop-opening l = length l.written.items
