use Rattle.std.proofs.Common.{◌≡◌, ◌-◌, length, drop}
use Rattle.sg_craft.specs.Making.{with_first_pairs}
use Rattle.sg_craft.proofs.commitments.overwrite.Given as goal

abbrev pub invariant-loop-done : goal.invariant-loop-done
invariant-loop-done l = l.current ≡ with_first_pairs l.initial.current (drop (length l.delta - l.done) l.delta)
