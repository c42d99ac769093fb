use Rattle.std.proofs.Common.{[]}
use Rattle.sg_ledger.proofs.OnceOverRuns.{all_differ, all_there, opened_after}
use Rattle.sg_ledger.proofs.runs.joined_once_over_runs.Goals as goal

pub returns-clause-differ : goal.returns-clause-differ
returns-clause-differ c = all_differ []

pub returns-clause-survive : goal.returns-clause-survive
returns-clause-survive c = all_there []

pub returns-clause-opened : goal.returns-clause-opened
returns-clause-opened c = opened_after
