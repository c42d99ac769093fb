use Rattle.std.proofs.Common.{◌≡◌, ◌+◌, length}
use Rattle.sg_audit.specs.Read.{read_sessions}
use Rattle.sg_audit.proofs.read.sessions_of.Given as goal

abbrev pub invariant-lines : goal.invariant-lines
invariant-lines l = read_sessions l.graph (l.fn.lines.number + 1) l.fn.reader l.fn.lines.lines ≡ read_sessions l.graph (l.lines.number + 1) l.reader l.lines.lines

abbrev pub decreases-lines : goal.decreases-lines
decreases-lines l = length l.lines.lines
