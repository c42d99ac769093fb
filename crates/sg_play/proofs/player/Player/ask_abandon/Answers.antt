use Rattle.std.proofs.Common.{None}
use Rattle.sg_protocol.specs.Calls.{Abandon}
use Rattle.sg_play.proofs.Keeping.{keeps_by_leaving}
use Rattle.sg_play.proofs.Reporting.{asked_quiet}
use Rattle.sg_play.proofs.player.Player.ask_abandon.Goals as goal

pub returns-clause-asked : goal.returns-clause-asked
returns-clause-asked c = λ p represents. asked_quiet c.args.self.now c.ask_abandon.new.node p (Abandon c.args.sid) c.ask_abandon.result represents (λ number. c.ask_abandon.ensures number p.past represents.node)

pub returns-clause-joins : goal.returns-clause-joins
returns-clause-joins c = keeps_by_leaving 0 c.args.self.now.node c.ask_abandon.new.node c.args.sid c.ask_abandon.result None (λ past represents. c.ask_abandon.ensures 0 past represents)
