-- The beginnings of a run.
use Rattle.std.specs.Prelude.{◌≡◌, ℕ, ◌<◌, ◌≤◌, List, ◌++◌, take, All}
use Rattle.sg_protocol.specs.Texts.{Hash}
use Rattle.sg_protocol.specs.Keyring.{Program}
use Rattle.sg_protocol.specs.Schedule.{Schedule}
use Rattle.sg_protocol.specs.World.{Logged, World}
use Rattle.sg_protocol.specs.Run.{run}
use Rattle.sg_protocol.specs.Premises.{Premises}

-- the schedule with its first n steps alone
abbrev pub first_steps : ℕ → Schedule → Schedule
first_steps n s = record s { steps = take n s.steps }

-- the log of one world is the other's up to step n
pub record IsLogUpTo (n : ℕ) (w now : World) : Type 0 where
  pub rest : List Logged
  pub parts : w.log ≡ now.log ++ rest
  pub before : All (λ l. l.number ≤ n) now.log
  pub after : All (λ l. n < l.number) rest

-- The log of the run of a schedule's first n steps is that of its run up to step n
abbrev pub RunsGoOn : Hash → Type 0
RunsGoOn sha = (programs : List Program) (s : Schedule) (n : ℕ) → IsLogUpTo n (run sha programs s) (run sha programs (first_steps n s))

-- If the assumptions hold of a run, they hold of the run of its schedule's first n steps
abbrev pub PremisesHoldBefore : Hash → Type 0
PremisesHoldBefore sha = (programs : List Program) (s : Schedule) (n : ℕ) → Premises sha s (run sha programs s) → Premises sha (first_steps n s) (run sha programs (first_steps n s))
