use Rattle.sg_drive.proofs.Taking.{is_honest_player, is_there}
use Rattle.sg_drive.proofs.generator.Generator.accepted_at.Goals as goal

pub take-requires-clause-step : goal.take-requires-clause-step
take-requires-clause-step c = record { declared = is_there c.args.self.now c.self.inside c.self.view_is c.self.invariant c.args.session c.requires.there.0; range = tt }

pub take-requires-clause-honest : goal.take-requires-clause-honest
take-requires-clause-honest c = is_honest_player c.args.self.now c.self.inside c.self.view_is c.self.invariant c.player_at-who.result c.player_at-who.ensures.honest
