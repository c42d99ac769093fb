use Rattle.std.proofs.Common.{◌≡◌, map}
use Rattle.sg_sched.specs.Format.StepsHeld.{step_of}
use Rattle.sg_setting.specs.Replay.{up_to}
use Rattle.sg_replay.specs.Replayed.{replay_of}
use Rattle.sg_replay.proofs.Replaying.{NoneFull}
use Rattle.sg_replay.proofs.replay.report_in.Given as goal

abbrev pub invariant-steps : goal.invariant-steps
invariant-steps l = (l.world ≡ up_to l.step-index (replay_of l.initial.world.programs l.schedule)) × (map step_of l.step-items ≡ l.schedule.steps) × NoneFull l.initial.world.programs l.schedule l.step-index
