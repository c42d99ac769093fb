use Rattle.std.proofs.Common.{◌≡◌, ℕ, ◌-◌, ◌<◌, drop, length}
use Rattle.std.specs.Option.{option_or}
use Rattle.sg_model.specs.Lists.{value_at}
use Rattle.sg_walk.specs.Model.{values_of}
use Rattle.sg_certify.specs.Filling.{value_in}
use Rattle.sg_certify.proofs.kept_values.learn.Given as goal

abbrev pub invariant-loop-back : goal.invariant-loop-back
invariant-loop-back l = (x : ℕ) → x < 32 → value_in l.kept x ≡ option_or (value_at (values_of (drop (length l.values - l.back) l.values)) x) (value_in l.initial.kept x)
