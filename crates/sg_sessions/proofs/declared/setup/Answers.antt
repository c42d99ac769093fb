use Rattle.sg_sessions.proofs.Setups.{setup_is_schedule}
use Rattle.sg_sessions.proofs.declared.setup.Goals as goal

pub returns-clause-schedule : goal.returns-clause-schedule
returns-clause-schedule c = setup_is_schedule c.args.graph.now c.roles-roles.ensures.graph c.args.sessions
