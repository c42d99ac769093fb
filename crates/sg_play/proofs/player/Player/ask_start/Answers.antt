use Rattle.std.proofs.Common.{IfOk, None, subst}
use Rattle.sg_protocol.specs.Calls.{Start}
use Rattle.sg_protocol.specs.Frame.{Cast}
use Rattle.sg_play.specs.Asking.{IsAsked}
use Rattle.sg_play.proofs.player.Player.ask_start.Goals as goal

pub returns-clause-is_asked : goal.returns-clause-is_asked
returns-clause-is_asked c = λ number past represents.
    subst (λ (x : Cast). IfOk c.ask_start.result (λ o. IsAsked number c.args.self.now.node c.ask_start.new.node past (Start x) o None)) c.cast_of-cast.ensures (c.ask_start.ensures.is_asked number past represents)
