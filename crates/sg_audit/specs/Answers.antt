-- What an audit answers.
use Rattle.std.specs.Prelude.{◌≡◌, ℕ, ◌<◌, false, List, Option, Some, None, IsTrue, ⊤}
use Rattle.sg_protocol.specs.Graph.{Graph}
use Rattle.sg_protocol.specs.Walk.{StoredStep}
use Rattle.sg_walk.specs.Model.{steps_of}
use Rattle.sg_audit.specs.Merged.{Log, events_of, clashes}
use Rattle.sg_audit.specs.Agree.{Agree, NoneClashes}
use Rattle.sg_audit.specs.declared.answer.Audit.{Audit}
use Rattle.sg_audit.specs.declared.answer.Audit.TheVariants.{Yes, Clash, No}

-- the walks that are asked for: the given one, or any if none is given
abbrev pub IsAsked : Option (List StoredStep) → List StoredStep → Type 0
IsAsked None steps = ⊤
IsAsked (Some reported) steps = steps ≡ reported

-- yes with a walk that is asked for and with which the logs agree; or the least time at which they clash; or no, if they clash at no time and agree with no walk that is asked for
abbrev pub IsAnswer : Graph → List Log → Option (List StoredStep) → Audit → Type 0
IsAnswer g logs reported (Yes walk) = Agree g logs (steps_of walk) × IsAsked reported (steps_of walk)
IsAnswer g logs reported (Clash time) = IsTrue (clashes (events_of logs) time) × ((sooner : ℕ) → sooner < time → clashes (events_of logs) sooner ≡ false)
IsAnswer g logs reported No = NoneClashes logs × ((steps : List StoredStep) → IsAsked reported steps → Agree g logs steps → ⊥)
