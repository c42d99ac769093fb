use Rattle.std.proofs.Common.{◌∙◌}
use Rattle.sg_play.proofs.Sessions.{count_known}
use Rattle.sg_play.proofs.player.Player.sessions.Goals as goal

pub returns : goal.returns
returns c = λ p s. c.len.ensures ∙ count_known c.args.self.now.names p.past.calls s.names
