use Rattle.std.proofs.Common.{length, ap, ◌∙◌, arith, List, ℕ}
use Rattle.sg_model.specs.Lists.{has_text}
use Rattle.sg_sessions.specs.Setup.{player, players}
use Rattle.sg_sessions.proofs.Players.{player_there}
use Rattle.sg_drive.proofs.play.player_at.Goals as goal

pub returns-clause-honest : goal.returns-clause-honest
returns-clause-honest c =
    let few = c.roles-roles.ensures.graph.sizes.0 in
    ap (λ (who : List ℕ). has_text who (players (length c.args.graph.now.roles))) (c.player-2.ensures ∙ ap player c.player.view_is) ∙ player_there c.node_role.result (length c.args.graph.now.roles) c.node_role.ensures.there (omega (arith, few))
