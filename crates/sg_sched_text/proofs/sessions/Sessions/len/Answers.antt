use Rattle.std.proofs.Common.{◌∙◌, ap, sym, length}
use Rattle.sg_sched_text.proofs.SessionLaws.{count}
use Rattle.sg_sched_text.proofs.sessions.Sessions.len.Goals as goal

pub returns : goal.returns
returns c = rw (← c.self.view_is) (ap length c.as_slice.ensures ∙ sym (count c.self.inside.names c.self.inside.likes.keys c.self.invariant.0))
