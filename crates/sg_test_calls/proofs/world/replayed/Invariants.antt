use Rattle.std.proofs.Common.{◌≡◌, map, length}
use Rattle.sg_sched_text.specs.Meant.{SameDeclared}
use Rattle.sg_sched.specs.Format.StepsHeld.{step_of}
use Rattle.sg_test_calls.proofs.world.replayed.Given as goal

abbrev pub invariant-steps : goal.invariant-steps
invariant-steps l = SameDeclared l.schedule l.world.schedule × (length l.world.schedule.steps ≡ l.next-index) × (map step_of l.next-items ≡ l.schedule.steps)
