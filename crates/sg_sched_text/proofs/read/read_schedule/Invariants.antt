use Rattle.std.proofs.Common.{◌≡◌, ◌≤◌, ◌+◌, false, length}
use Rattle.sg_sched.specs.Text.{lines}
use Rattle.sg_sched_text.specs.Early.{begins_late}
use Rattle.sg_sched_text.specs.Plus.{nothing}
use Rattle.sg_sched_text.specs.ReadSoFar.{HasRead}
use Rattle.sg_sched_text.proofs.read.read_schedule.Given as goal

abbrev pub invariant-lines : goal.invariant-lines
invariant-lines l = record {
  has_read : HasRead l.bytes l.reader l.rest;
  early : begins_late nothing (lines l.bytes) ≡ false → begins_late l.reader.past (lines l.rest) ≡ false;
  few : l.reader.number + length l.rest ≤ length l.bytes;
}

abbrev pub decreases-lines : goal.decreases-lines
decreases-lines l = length l.rest
