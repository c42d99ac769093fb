-- The steps that the program holds, as those of the definitions.
use Rattle.std.specs.Prelude.{ℕ, map}
use Rattle.sg_base.specs.declared.value.Value.{Value}
use Rattle.sg_base.specs.Model.{value_of}
use Rattle.sg_protocol.specs.Schedule as Protocol
use Rattle.sg_protocol.specs.Schedule.{StartStep, ActStep, AbandonStep, DeliverStep, CraftStep, Whole as WholeFrame, Flipped, Cut as CutFrame, Bytes as AnyBytes}
use Rattle.sg_sched.specs.declared.step.Step.{Step}
use Rattle.sg_sched.specs.declared.step.Step.TheVariants.{Start, Act, Abandon, Deliver, Craft}
use Rattle.sg_sched.specs.declared.step.What.{What}
use Rattle.sg_sched.specs.declared.step.What.TheVariants.{Frame, Bytes}
use Rattle.sg_sched.specs.declared.step.Change.{Change}
use Rattle.sg_sched.specs.declared.step.Change.TheVariants.{Whole, Flip, Cut}

-- a recorded frame, as it is changed
abbrev pub changed : ℕ → Change → Protocol.What
changed number Whole = WholeFrame number
changed number (Flip at) = Flipped number at
changed number (Cut len) = CutFrame number len

-- what is delivered
abbrev pub what_of : What → Protocol.What
what_of (Frame number change) = changed number change
what_of (Bytes bytes) = AnyBytes bytes.items

-- the step that is held
abbrev pub step_of : Step → Protocol.Step
step_of (Start who session) = StartStep who session
step_of (Act who session label values) = ActStep who session label (map (λ (w : ℕ × Value). (w.0, value_of w.1)) values)
step_of (Abandon who session) = AbandonStep who session
step_of (Deliver who what) = DeliverStep who (what_of what)
step_of (Craft c) = CraftStep c
