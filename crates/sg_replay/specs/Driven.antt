-- What is left of the run that is generated for a seed, a number of sessions and a graph.
use Rattle.std.specs.Prelude.{◌≡◌, ℕ, List, codes, All, ⊤}
use Rattle.sg_protocol.specs.Graph.{Graph}
use Rattle.sg_protocol.specs.Keyring.{Program}
use Rattle.sg_protocol.specs.Past.{JoinedOnce}
use Rattle.sg_world.specs.Faults.{NeverFull}
use Rattle.sg_world.specs.Laws.{RunLaws}
use Rattle.sg_setting.specs.Replay.{run_of}
use Rattle.sg_drive.specs.Faults.{IsTooMuch}
use Rattle.sg_drive.specs.Generated.{Generated}
use Rattle.sg_drive.specs.Going.{Going}
use Rattle.sg_drive.specs.Summary.{IsSummary}
use Rattle.sg_ending.specs.Ending.{Ending, NoMemory, TooLarge}

-- the text is the summary of the generated run over the graph's programs, whose record is full as no step begins; no principal joins a session
-- twice as the same role; and what holds of runs holds of this one
pub record Sums (seed sessions : ℕ) (g : Graph) (programs : List Program) (text : List ℕ) : Type 0 where
  pub going : Going
  pub generated : Generated seed sessions g programs going
  pub room : NeverFull going.replay
  pub summary : IsSummary sessions going.lost g going.replay text
  pub once : All JoinedOnce (run_of going.replay).pasts
  pub laws : RunLaws going.replay

-- a step of the generated run begins with a full record
abbrev pub IsOverfullDrive : (seed sessions : ℕ) → Graph → List Program → Type 0
IsOverfullDrive seed sessions g programs = (size : ℕ) × IsTooMuch seed sessions g programs size

-- the run is not generated to its end: its record is full as a step begins, or memory ran out
abbrev pub StopsDrive : (seed sessions : ℕ) → Graph → List Program → Ending → Type 0
StopsDrive seed sessions g programs (TooLarge what) = (what ≡ codes "record") × IsOverfullDrive seed sessions g programs
StopsDrive seed sessions g programs NoMemory = ⊤
StopsDrive seed sessions g programs ending = ⊥
