use Rattle.std.proofs.Common.{◌≡◌, ◌≤◌, ◌+◌, length}
use Rattle.sg_sched.specs.Text.{lines}
use Rattle.sg_sched_text.proofs.block.count_lines.Given as goal

abbrev pub invariant-lines : goal.invariant-lines
invariant-lines l = record {
  sum : l.count + length (lines l.rest) ≡ length (lines l.bytes);
  few : l.count + length l.rest ≤ length l.bytes;
}

abbrev pub decreases-lines : goal.decreases-lines
decreases-lines l = length l.rest
