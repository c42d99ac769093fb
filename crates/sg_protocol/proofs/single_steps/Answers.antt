-- The laws of single steps.
use Rattle.sg_protocol.proofs.Steps.{runs_go_by_step, logs_are_numbered, steps_add_entries, frames_are_numbered}
use Rattle.sg_protocol.proofs.Sizes.{steps_add_little}
use Rattle.sg_protocol.proofs.single_steps.Goals as goal

pub returns : goal.returns
returns c = record { goes_on = runs_go_by_step; numbered = logs_are_numbered; framed = frames_are_numbered; sizes = steps_add_entries; little = steps_add_little }
