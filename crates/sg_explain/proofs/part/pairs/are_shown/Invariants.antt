use Rattle.std.proofs.Common.{◌≡◌, ◌↔◌, drop}
use Rattle.sg_protocol.specs.Walk.{shown}
use Rattle.sg_walk.specs.Model.{values_of, writes_of}
use Rattle.sg_explain.proofs.part.pairs.are_shown.Given as goal

abbrev pub invariant-loop-index : goal.invariant-loop-index
invariant-loop-index l = (shown (values_of l.values) ≡ writes_of l.writes) ↔ (shown (values_of (drop l.index l.values)) ≡ writes_of (drop l.index l.writes))
