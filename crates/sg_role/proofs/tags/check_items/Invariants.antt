use Rattle.sg_role.specs.Model.{state_of}
use Rattle.sg_role.proofs.Looked.{Looking}
use Rattle.sg_role.proofs.tags.check_items.Given as goal

abbrev pub invariant-loop-at : goal.invariant-loop-at
invariant-loop-at l = Looking l.keys (state_of l.kept).held l.items l.initial.notes l.at l.commitments.items l.notes
