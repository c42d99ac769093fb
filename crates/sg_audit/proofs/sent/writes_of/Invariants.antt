use Rattle.std.proofs.Common.{◌≡◌, take}
use Rattle.sg_protocol.specs.Walk.{shown}
use Rattle.sg_walk.specs.Model.{values_of, writes_of}
use Rattle.sg_audit.proofs.sent.writes_of.Given as goal

abbrev pub invariant-loop-value : goal.invariant-loop-value
invariant-loop-value l = writes_of l.writes.items ≡ shown (values_of (take l.value-index l.values))
