use Rattle.std.proofs.Common.{◌∙◌}
use Rattle.sg_sched_text.proofs.SessionLaws.{any_like}
use Rattle.sg_sched_text.proofs.sessions.Sessions.has_like.Goals as goal

pub returns : goal.returns
returns c = rw (← c.self.view_is) (c.contains.ensures ∙ any_like c.args.like.now c.self.inside.names c.self.inside.likes.keys c.self.invariant.0)
