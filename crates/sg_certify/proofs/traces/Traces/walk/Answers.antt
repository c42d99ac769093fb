use Rattle.std.proofs.Common.{sym, ◌∙◌, ap}
use Rattle.std.specs.Option.{option_copied}
use Rattle.sg_walk.specs.Model.{steps_of}
use Rattle.sg_certify.proofs.Explained.{explained, no_event}
use Rattle.sg_certify.proofs.traces.Traces.walk.Goals as goal

pub returns-in_ok-walk-in-Some : goal.returns-in_ok-walk-in-Some
returns-in_ok-walk-in-Some c programs s u are =
    explained programs s c.args.self.now u are c.args.sid.now c.in-Some.trace.now (steps_of c.in_ok-walk-in-Some.field-0) (sym c.get.ensures ∙ ap option_copied c.in-Some.is) c.in_ok-walk-in-Some.ensures

pub returns-in-None : goal.returns-in-None
returns-in-None c programs s u are = no_event programs s c.args.self.now u are c.args.sid.now (sym c.get.ensures ∙ ap option_copied c.in-None.is)
