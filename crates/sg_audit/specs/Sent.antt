-- The steps that Sent events give.
use Rattle.std.specs.Prelude.{List, [], ◌∷◌}
use Rattle.sg_protocol.specs.Calls.{Event, Started, Sent, Received}
use Rattle.sg_protocol.specs.Walk.{StoredStep, shown}

-- a step for each Sent, with the values that it carries
abbrev pub sent_steps : List Event → List StoredStep
sent_steps [] = []
sent_steps (Started sid r ∷ es) = sent_steps es
sent_steps (Sent sid r label time values ∷ es) = record { label = label; writes = shown values } ∷ sent_steps es
sent_steps (Received sid r label time values joins ∷ es) = sent_steps es
