use Rattle.std.proofs.Common.{◌≡◌, ◌≤◌, ◌+◌, length}
use Rattle.sg_sched_text.proofs.BlockLaws.{Searched}
use Rattle.sg_sched_text.proofs.block.split_block.Given as goal

abbrev pub invariant-lines : goal.invariant-lines
invariant-lines l = record {
  searched : Searched l.bytes l.rest l.at l.count;
  few : l.count + length l.rest ≤ length l.bytes;
  within : l.at + length l.rest ≡ length l.bytes;
}

abbrev pub decreases-lines : goal.decreases-lines
decreases-lines l = length l.rest
