use Rattle.std.proofs.Common.{◌∙◌, ap, sym}
use Rattle.sg_model.specs.Lists.{has_text}
use Rattle.sg_sched_text.proofs.SessionLaws.{names_are}
use Rattle.sg_sched_text.proofs.sessions.Sessions.has.Goals as goal

pub returns : goal.returns
returns c = rw (← c.self.view_is) (c.has.ensures ∙ ap (has_text c.args.name.now) (sym (names_are c.self.inside.names c.self.inside.likes.keys c.self.invariant.0)))
