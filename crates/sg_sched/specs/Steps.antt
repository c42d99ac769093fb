-- Which steps can be taken: what a step names, except for the principal, is declared, and what it says is in range.
use Rattle.std.specs.Prelude.{◌<◌, ⊤, length}
use Rattle.sg_protocol.specs.IsSchedule.{IsStep}
use Rattle.sg_protocol.specs.Schedule.{Step, Schedule, StartStep, ActStep, AbandonStep, DeliverStep, CraftStep}
use Rattle.sg_protocol.specs.Texts.{real}

-- the session that the step names is declared
abbrev pub IsDeclaredIn : Schedule → Step → Type 0
IsDeclaredIn s (StartStep who n) = n < length s.sessions
IsDeclaredIn s (ActStep who n label values) = n < length s.sessions
IsDeclaredIn s (AbandonStep who n) = n < length s.sessions
IsDeclaredIn s (DeliverStep who what) = ⊤
IsDeclaredIn s (CraftStep c) = c.session < length s.sessions

-- the step can be taken
pub record CanBeTaken (s : Schedule) (x : Step) : Type 0 where
  pub declared : IsDeclaredIn s x
  pub range : IsStep real s x
