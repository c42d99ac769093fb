use Rattle.std.specs.Prelude.{ℕ, ◌+◌, ◌-◌, ◌^◌, ◌==◌, nat_lt, if◌then◌else◌, Bool, List, Option}
use Rattle.std.specs.List.{list_any}
use Rattle.sg_base.specs.declared.address.Addr.{Addr}

-- the numbers of the calls that are to fail, the calls so far, and the count of faults
pub record FaultPlan : Type 0 where
  pub fails : List ℕ
  pub calls : ℕ
  pub faults : ℕ

-- the plan of an object that was not called yet
abbrev pub new_plan : List ℕ → FaultPlan
new_plan fails = record { fails = fails; calls = 0; faults = 0 }

-- one more, up to the greatest number of 64 bits
abbrev pub one_more : ℕ → ℕ
one_more n = if nat_lt n (2 ^ 64 - 1) then n + 1 else n

-- the next call is on the list of those that are to fail
abbrev pub fails_next : FaultPlan → Bool
fails_next p = list_any (λ n. n == one_more p.calls) p.fails

-- the plan after one more call
abbrev pub counted : FaultPlan → FaultPlan
counted p = record p { calls = one_more p.calls }

-- the plan after one more call, which failed
abbrev pub failed : FaultPlan → FaultPlan
failed p = record (counted p) { faults = one_more p.faults }

-- files in memory, each as the bytes of its name and its own bytes, and the name of the file for which a call last failed
pub record FilesHeld : Type 0 where
  pub files : List (List ℕ × List ℕ)
  pub plan : FaultPlan
  pub last : Option (List ℕ)

-- a sink in memory: the bytes written, and how many there may be
pub record SinkHeld : Type 0 where
  pub bytes : List ℕ
  pub room : ℕ
  pub plan : FaultPlan

-- a link in memory: the address at which it waits, the deliveries to come, the frames sent, and how many of these there may be
pub record LinkHeld : Type 0 where
  pub bound : Option Addr
  pub deliveries : List (List ℕ)
  pub sent : List (Addr × List ℕ)
  pub room : ℕ
  pub plan : FaultPlan
