-- Events and stored walks of the program as those of the definitions.
use Rattle.std.specs.Prelude.{ℕ, List, map, Option, option_map}
use Rattle.sg_model.specs.Last.{Map}
use Rattle.sg_model.specs.Values.{Value}
use Rattle.sg_base.specs.Model.{value_of}
use Rattle.sg_base.specs.declared.value.Value.{Value as Held}
use Rattle.sg_protocol.specs.Calls.{Event, Started, Sent, Received}
use Rattle.sg_protocol.specs.Walk.{StoredStep}
use Rattle.sg_walk.specs.declared.event.Event.{Event as CodeEvent}
use Rattle.sg_walk.specs.declared.event.Event.TheVariants.{Started as ToldStart, Sent as ToldSend, Received as ToldReceipt}
use Rattle.sg_walk.specs.declared.stored.StoredStep.{StoredStep as Step}
use Rattle.sg_walk.specs.declared.stored.StoredWalk.{StoredWalk}

-- the variables with their values
abbrev pub values_of : Map Held → Map Value
values_of values = map (λ (w : ℕ × Held). (w.0, value_of w.1)) values

-- the variables with their values, some hidden
abbrev pub writes_of : Map (Option Held) → Map (Option Value)
writes_of writes = map (λ (w : ℕ × Option Held). (w.0, option_map value_of w.1)) writes

-- the event
abbrev pub event_of : CodeEvent → Event
event_of (ToldStart sid r) = Started sid r
event_of (ToldSend sid r label time values) = Sent sid r label time (values_of values)
event_of (ToldReceipt sid r label time values joins) = Received sid r label time (values_of values) joins

-- the step
abbrev pub step_of : Step → StoredStep
step_of s = record { label = s.label; writes = writes_of s.writes }

-- the steps of a walk
abbrev pub steps_of : StoredWalk → List StoredStep
steps_of w = map step_of w.steps
