-- Why a step is not taken.
use Rattle.std.specs.Prelude.{◌≡◌, ℕ, ◌<◌, length, Some, true, false}
use Rattle.sg_model.specs.Limits.{most_record_before}
use Rattle.sg_protocol.specs.Schedule.{Step, who_of}
use Rattle.sg_protocol.specs.Steps.{is_taken}
use Rattle.sg_setting.specs.Replay.{Replay, size_of, up_to}
use Rattle.sg_world.specs.declared.fault.StepFault.{StepFault}
use Rattle.sg_world.specs.declared.fault.StepFault.TheVariants.{NotHonest, RecordFull, OutOfMemory}

-- the record holds more bytes than a step may begin with
abbrev pub IsFull : Replay → Type 0
IsFull r = most_record_before < size_of r

-- no step begins with a full record
abbrev pub NeverFull : Replay → Type 0
NeverFull r = (n : ℕ) → n < length r.schedule.steps → IsFull (up_to n r) → ⊥

-- the step is one of an honest principal or a craft, and the record is not full
abbrev pub IsAdmitted : Replay → Step → Type 0
IsAdmitted r x = (is_taken r.schedule x ≡ true) × (IsFull r → ⊥)

-- why the step is not taken, in order. Memory runs out only for a step that is admitted
abbrev pub IsStepFault : Replay → Step → StepFault → Type 0
IsStepFault r x (NotHonest name) = (who_of x ≡ Some name) × (is_taken r.schedule x ≡ false)
IsStepFault r x (RecordFull bytes) = (is_taken r.schedule x ≡ true) × IsFull r × (bytes ≡ size_of r)
IsStepFault r x OutOfMemory = IsAdmitted r x
