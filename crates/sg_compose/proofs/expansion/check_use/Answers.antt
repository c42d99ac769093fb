use Rattle.std.proofs.Common.{sym}
use Rattle.sg_compose.proofs.Ends.{ends-at}
use Rattle.sg_compose.proofs.expansion.check_use.Goals as goal

pub roles_fit-requires-clause-end : goal.roles_fit-requires-clause-end
roles_fit-requires-clause-end c = (ends-at c.args.inner.now c.in-Some.end (sym c.in-Some.ensures)).there
