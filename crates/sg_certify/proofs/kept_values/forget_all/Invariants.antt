use Rattle.std.proofs.Common.{◌≡◌, ℕ, ◌<◌, nat_lt, ◌&&◌, if◌then◌else◌}
use Rattle.std.specs.Prelude.{None}
use Rattle.sg_model.specs.Lists.{is_in}
use Rattle.sg_certify.specs.Filling.{value_in}
use Rattle.sg_certify.proofs.kept_values.forget_all.Given as goal

abbrev pub invariant-loop-number : goal.invariant-loop-number
invariant-loop-number l = (x : ℕ) → x < 32 → value_in l.kept x ≡ (if (nat_lt x l.number && is_in x l.vars) then None else value_in l.initial.kept x)
