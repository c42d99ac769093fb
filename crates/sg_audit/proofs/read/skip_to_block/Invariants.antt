use Rattle.std.proofs.Common.{◌≡◌, ◌+◌, length}
use Rattle.sg_audit.specs.Read.{read_lines, first_block}
use Rattle.sg_audit.proofs.read.skip_to_block.Given as goal

abbrev pub invariant-lines : goal.invariant-lines
invariant-lines l = record {
  same : read_lines (l.fn.lines.number + 1) l.fn.lines.lines ≡ read_lines (l.lines.number + 1) l.lines.lines;
  block : first_block l.fn.lines.lines ≡ first_block l.lines.lines;
}

abbrev pub decreases-lines : goal.decreases-lines
decreases-lines l = length l.lines.lines
