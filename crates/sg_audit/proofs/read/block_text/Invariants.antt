use Rattle.std.proofs.Common.{length}
use Rattle.sg_audit.proofs.BlockText.{Searched}
use Rattle.sg_audit.proofs.read.block_text.Given as goal

abbrev pub invariant-lines : goal.invariant-lines
invariant-lines l = Searched l.all l.fn.lines.number l.fn.lines.lines l.end l.lines.number l.lines.lines

abbrev pub decreases-lines : goal.decreases-lines
decreases-lines l = length l.lines.lines
