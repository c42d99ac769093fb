use Rattle.std.proofs.Common.{◌+◌}
use Rattle.sg_audit.proofs.Fitting.{result_fits}
use Rattle.sg_audit.proofs.read.read_sessions.Goals as goal

pub returns-clause-fit : goal.returns-clause-fit
returns-clause-fit c =
    result_fits c.args.graph.now (c.args.lines.now.number + 1) c.args.lines.now.lines c.sessions_of-sessions.result _ c.roles-count.ensures.graph
    (rw c.new-reader.ensures at c.sessions_of-sessions.ensures)
