use Rattle.std.proofs.Common.{◌≡◌, ◌++◌, ℕ, map}
use Rattle.sg_base.specs.declared.value.Value.{Value}
use Rattle.sg_base.specs.Model.{value_of}
use Rattle.sg_sched_text.specs.Numbers.{numbered, from_number}
use Rattle.sg_sched_text.proofs.values.in_order.Given as goal

abbrev pub invariant-loop-number : goal.invariant-loop-number
invariant-loop-number l =
    from_number 0 (numbered l.numbers l.values) ≡ map (λ (w : ℕ × Value). (w.0, value_of w.1)) l.found ++ from_number l.number (numbered l.numbers l.values)
