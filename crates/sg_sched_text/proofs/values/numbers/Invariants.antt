use Rattle.std.proofs.Common.{◌≡◌, ◌++◌, drop}
use Rattle.std.specs.Prelude.{option_map, Some}
use Rattle.sg_sched.specs.Format.Items.{variables_of}
use Rattle.sg_sched_text.specs.Numbers.{numbers_of}
use Rattle.sg_sched_text.proofs.values.numbers.Given as goal

abbrev pub invariant-loop-given : goal.invariant-loop-given
invariant-loop-given l =
    numbers_of (variables_of (Some l.graph)) l.values ≡ option_map (λ ns. l.found ++ ns) (numbers_of (variables_of (Some l.graph)) (drop l.given-index l.values))
