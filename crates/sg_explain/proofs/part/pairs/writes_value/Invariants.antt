use Rattle.std.proofs.Common.{◌≡◌, drop}
use Rattle.sg_model.specs.Lists.{value_at}
use Rattle.sg_walk.specs.Model.{writes_of}
use Rattle.sg_explain.proofs.part.pairs.writes_value.Given as goal

abbrev pub invariant-loop-write : goal.invariant-loop-write
invariant-loop-write l = value_at (writes_of l.writes) l.var ≡ value_at (writes_of (drop l.write-index l.writes)) l.var
