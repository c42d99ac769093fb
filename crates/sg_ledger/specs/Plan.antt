-- Which calls of a disk in memory fail.
use Rattle.std.specs.Prelude.{ℕ, ◌==◌, nat_lt, Bool, true, false, if◌then◌else◌, ◌||◌, not, List, Option, Some, None}
use Rattle.std.specs.List.{list_any}
use Rattle.sg_base.specs.Memory.{one_more}
use Rattle.sg_ledger.specs.declared.plan.Fate.{Fate}
use Rattle.sg_ledger.specs.declared.plan.Fate.TheVariants.{Goes, Fails, Stopped}

-- the numbers of the calls that are to fail, after how many calls the disk stops, the calls so far, and the count of faults
pub record DiskPlan : Type 0 where
  pub fails : List ℕ
  pub stop : Option ℕ
  pub calls : ℕ
  pub faults : ℕ

-- the next call comes after the disk has stopped
abbrev pub is_past : Option ℕ → ℕ → Bool
is_past None number = false
is_past (Some last) number = nat_lt last number

-- what becomes of the next call: past the stop or past its room it never reaches the disk, and it fails if it is on the list
abbrev pub fate_of : DiskPlan → Bool → Fate
fate_of p has_room =
    if is_past p.stop (one_more p.calls) || not has_room then Stopped
    else if list_any (λ n. n == one_more p.calls) p.fails then Fails
    else Goes

-- the plan after a call
abbrev pub after_fate : DiskPlan → Fate → DiskPlan
after_fate p Goes = record { fails = p.fails; stop = p.stop; calls = one_more p.calls; faults = p.faults }
after_fate p Fails = record { fails = p.fails; stop = p.stop; calls = one_more p.calls; faults = one_more p.faults }
after_fate p Stopped = record { fails = p.fails; stop = p.stop; calls = one_more p.calls; faults = one_more p.faults }
