-- What the parts of a group come to, and groups one after another.
use Rattle.std.specs.Prelude.{◌≡◌, ℕ, ◌*◌, min, List, []}
use Rattle.sg_protocol.specs.Graph.{Graph}
use Rattle.sg_protocol.specs.Keyring.{Program}
use Rattle.sg_drive.specs.Budget.{HasBudget}
use Rattle.sg_drive.specs.Faults.{IsStopped}
use Rattle.sg_drive.specs.Generated.{AreGroups, IsGroup, turns}
use Rattle.sg_drive.specs.Going.{Going, beginning}
use Rattle.sg_drive.specs.Machine.{Machine}
use Rattle.sg_drive.specs.declared.fault.GenerateFault.{GenerateFault}

-- the run goes on by the group
pub record IsOfGroup (first count : ℕ) (old new : Machine) : Type 0 where
  pub going : Going
  pub group : IsGroup old.seed old.graph first count old.going going
  pub is : new ≡ record old { going = going }

-- the run that goes on by the group goes no further
abbrev pub IsGroupFault : (first count : ℕ) → Machine → GenerateFault → Type 0
IsGroupFault first count old e = (going : Going) → IsGroup old.seed old.graph first count old.going going → IsStopped going.replay e

-- the run goes on by turns, until no frame is pending
pub record AreTurns (old new : Machine) : Type 0 where
  pub count : ℕ
  pub is : new ≡ record old { going = turns count old.seed old.graph old.going }
  pub over : new.going.pending ≡ []

-- the run that goes on so goes no further
abbrev pub IsTurnFault : Machine → GenerateFault → Type 0
IsTurnFault old e = (count : ℕ) → (turns count old.seed old.graph old.going).pending ≡ [] → IsStopped (turns count old.seed old.graph old.going).replay e

-- the machine after n groups, and steps are left only for the sessions that have not begun
pub record AreGrouped (n seed sessions : ℕ) (g : Graph) (programs : List Program) (m : Machine) : Type 0 where
  pub is : m ≡ record { seed = seed; sessions = sessions; graph = g; going = m.going }
  pub groups : AreGroups n seed sessions g (beginning sessions g programs) m.going
  pub budget : HasBudget 0 (min sessions (16 * n)) m
