-- What room is left after a step, draws and frames.
use Rattle.std.proofs.Common.{◌≡◌, ℕ, ◌+◌, ◌≤◌, sym, subst, arith}
use Rattle.sg_drive.specs.Going.{drawing}
use Rattle.sg_drive.specs.Machine.{HasRoom, Machine}

pub room_drawing : (more drawn n : ℕ) (m m2 : Machine) → HasRoom more drawn m → m2 ≡ record m { going = drawing n m.going } → HasRoom more (drawn + n) m2
room_drawing more drawn n m m2 r e = subst (HasRoom more (drawn + n)) (sym e) (record {
  start = r.start;
  steps = r.steps;
  draws = (let h = r.draws in omega (arith, h));
  lost = r.lost;
})

pub room_less : (more less drawn most : ℕ) (m : Machine) → less ≤ more → drawn ≤ most → HasRoom more drawn m → HasRoom less most m
room_less more less drawn most m h k r = record { start = r.start; steps = (let s = r.steps in omega (arith, s, h)); draws = (let d = r.draws in omega (arith, d, k)); lost = r.lost }
