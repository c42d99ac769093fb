-- What clauses see of a disk in memory.
use Rattle.std.specs.Prelude.{ℕ, List, Option}
use Rattle.sg_ledger.specs.Memory.{Medium}
use Rattle.sg_ledger.specs.Plan.{DiskPlan}

-- the name that it was opened by, its file with the record of its calls, and which calls fail
pub record DiskHeld : Type 0 where
  pub bound : Option (List ℕ)
  pub medium : Medium
  pub plan : DiskPlan
