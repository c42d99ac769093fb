use Rattle.std.proofs.Common.{◌≡◌, take}
use Rattle.sg_protocol.specs.Walk.{shown}
use Rattle.sg_walk.specs.Model.{values_of, writes_of}
use Rattle.sg_certify.proofs.pass.all_shown.Given as goal

abbrev pub invariant-loop-pair : goal.invariant-loop-pair
invariant-loop-pair l = writes_of l.writes.items ≡ shown (values_of (take l.pair-index l.values))
