use Rattle.std.proofs.Common.{◌≡◌, refl, arith}
use Rattle.sg_know.specs.declared.states.Mark.{Mark}
use Rattle.sg_know.specs.declared.states.Mark.TheVariants.{Unwritten, Unknown, Known}
use Rattle.sg_know.specs.States.{state_at}
use Rattle.sg_know.proofs.bad.unknown_after.Goals as goal

pub returns : goal.returns
returns c i u = by_mark (state_at c.args.states.now i).mark refl
  where
    by_mark : (m : Mark) → (state_at c.args.states.now i).mark ≡ m → ⊥
    by_mark Unwritten e = c.loop-mark.invariant 0 i (omega arith) u e
    by_mark Unknown e = c.loop-mark.invariant 1 i (omega arith) u e
    by_mark Known e = c.loop-mark.invariant 2 i (omega arith) u e
