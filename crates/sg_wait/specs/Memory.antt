-- A link in memory on which one waits with a limit of time.
use Rattle.std.specs.Prelude.{ℕ, ◌==◌, ◌||◌, nat_lt, Bool, List, Option, length}
use Rattle.sg_base.specs.declared.address.Addr.{Addr}
use Rattle.sg_base.specs.Memory.{FaultPlan, fails_next}
use Rattle.sg_wait.specs.Waiting.{Coming}

-- the address at which it waits, what is to come, the frames sent, how many more there may be, and how many bytes each may have
pub record TimedLinkHeld : Type 0 where
  pub bound : Option Addr
  pub coming : List Coming
  pub sent : List (Addr × List ℕ)
  pub room : ℕ
  pub most : ℕ
  pub plan : FaultPlan

-- the next call fails, if it is one that sends this frame
abbrev pub fails_to_send : TimedLinkHeld → List ℕ → Bool
fails_to_send l frame = fails_next l.plan || l.room == 0 || nat_lt l.most (length frame)
