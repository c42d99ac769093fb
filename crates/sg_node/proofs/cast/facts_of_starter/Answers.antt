use Rattle.std.proofs.Common.{sym}
use Rattle.sg_protocol.proofs.NoRows.{starter_found}
use Rattle.sg_node.proofs.cast.facts_of_starter.Goals as goal

pub returns-clause-first : goal.returns-clause-first
returns-clause-first c = (starter_found c.args.programs.now c.args.digest.now c.args.program.now c.requires).meant

pub returns-clause-starts : goal.returns-clause-starts
returns-clause-starts c = sym (starter_found c.args.programs.now c.args.digest.now c.args.program.now c.requires).role_is

pub returns-clause-digest : goal.returns-clause-digest
returns-clause-digest c = (starter_found c.args.programs.now c.args.digest.now c.args.program.now c.requires).digest_is
