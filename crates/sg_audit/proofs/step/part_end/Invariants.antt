use Rattle.std.proofs.Common.{◌≡◌, ◌+◌, false, drop}
use Rattle.sg_audit.specs.Reading.{part_end}
use Rattle.sg_audit.proofs.step.part_end.Given as goal

abbrev pub invariant-bytes : goal.invariant-bytes
invariant-bytes l = l.at + part_end l.quoted (drop l.at l.bytes) ≡ part_end false l.bytes
