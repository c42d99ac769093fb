use Rattle.std.proofs.Common.{◌++◌, ◌∷◌, [], ap, sym, ◌∙◌}
use Rattle.sg_sessions.specs.Setup.{player}
use Rattle.sg_sessions.proofs.Setups.{players_more}
use Rattle.sg_sessions.proofs.declared.players.Goals as goal

pub loop-role-preserved : goal.loop-role-preserved
loop-role-preserved c = c.in_ok-push.ensures.ok ∙ ap (λ z. c.loop-role.names ++ z ∷ []) c.player.ensures ∙ ap (λ z. z ++ player c.loop-role.role ∷ []) c.loop-role.invariant ∙ sym (players_more c.loop-role.role)
