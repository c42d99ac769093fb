use Rattle.std.proofs.Common.{◌≡◌, take}
use Rattle.sg_setting.proofs.copies.copy_values.Given as goal

-- the copies so far
abbrev pub invariant-loop-value : goal.invariant-loop-value
invariant-loop-value l = l.copies ≡ take l.value-index l.values
