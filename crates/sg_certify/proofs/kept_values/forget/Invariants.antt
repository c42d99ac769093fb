use Rattle.std.proofs.Common.{◌≡◌, ℕ, ◌<◌, if◌then◌else◌, drop}
use Rattle.std.specs.Prelude.{None}
use Rattle.sg_model.specs.Lists.{is_in, keys_of}
use Rattle.sg_certify.specs.Filling.{value_in}
use Rattle.sg_certify.proofs.kept_values.forget.Given as goal

abbrev pub invariant-loop-pair : goal.invariant-loop-pair
invariant-loop-pair l = (x : ℕ) → x < 32 → (if is_in x (keys_of (drop l.pair-index l.values)) then None else value_in l.kept x) ≡ (if is_in x (keys_of l.values) then None else value_in l.initial.kept x)
