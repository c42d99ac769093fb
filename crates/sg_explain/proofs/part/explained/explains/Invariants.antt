use Rattle.std.proofs.Common.{◌≡◌, map, []}
use Rattle.std.specs.Prelude.{flat_map}
use Rattle.sg_model.specs.Lists.{is_in}
use Rattle.sg_protocol.specs.Walk.{acts_of_event, honest_acts}
use Rattle.sg_walk.specs.Model.{event_of, steps_of}
use Rattle.sg_explain.proofs.Explained.{Explaining}
use Rattle.sg_explain.proofs.part.explained.explains.Given as goal

abbrev pub invariant-loop-number : goal.invariant-loop-number
invariant-loop-number l =
    Explaining (flat_map acts_of_event (map event_of l.events) ≡ honest_acts l.graph (λ r. is_in r l.honest) l.taken [] (steps_of l.walk))
    l.graph (λ r. is_in r l.honest) l.taken l.events l.steps l.number l.at l.indices
