-- What bytes spell is a schedule as the protocol has them, and each of its steps can be taken.
use Rattle.std.specs.Prelude.{◌≡◌, ℕ, ◌≤◌, List, length, All}
use Rattle.sg_model.specs.Limits.{most_steps}
use Rattle.sg_protocol.specs.IsSchedule.{IsSchedule}
use Rattle.sg_protocol.specs.Schedule.{Schedule}
use Rattle.sg_protocol.specs.Texts.{real}
use Rattle.sg_sched.specs.Format.Spells.{SpellsSchedule}
use Rattle.sg_sched.specs.Steps.{CanBeTaken}
use Rattle.sg_sched_text.specs.Holding.{HasRoles}

-- the two schedules have the same graphs and sessions
pub record SameDeclared (s t : Schedule) : Type 0 where
  pub graphs : s.graphs ≡ t.graphs
  pub sessions : s.sessions ≡ t.sessions

-- It is one as the protocol has them, its graphs have two roles or more, and it has at most 200,000 steps.
-- Each of them can be taken if the same is declared, whatever steps come before it
pub record IsMeant (s : Schedule) : Type 0 where
  pub schedule : IsSchedule real s
  pub roles : All HasRoles s.graphs
  pub few : length s.steps ≤ most_steps
  pub steps : All (λ x. (t : Schedule) → SameDeclared s t → CanBeTaken t x) s.steps

-- what bytes spell is meant so
abbrev pub SpelledIsMeant : Type 0
SpelledIsMeant = (bytes : List ℕ) (s : Schedule) → SpellsSchedule real bytes s → IsMeant s
