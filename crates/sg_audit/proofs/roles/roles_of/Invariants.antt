use Rattle.std.proofs.Common.{◌≡◌, ℕ, ◌≤◌, drop, map, length}
use Rattle.sg_model.specs.Lists.{is_in}
use Rattle.sg_audit.specs.Model.{log_of}
use Rattle.sg_audit.specs.Merged.{roles_of}
use Rattle.sg_audit.proofs.roles.roles_of.Given as goal

abbrev pub invariant-loop-left : goal.invariant-loop-left
invariant-loop-left l = (l.left ≤ length l.logs) × ((r : ℕ) → is_in r l.roles ≡ is_in r (roles_of (map log_of (drop l.left l.logs))))

abbrev pub decreases-loop-left : goal.decreases-loop-left
decreases-loop-left l = l.left
