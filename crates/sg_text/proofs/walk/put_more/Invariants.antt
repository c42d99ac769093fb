use Rattle.std.proofs.Common.{◌≡◌, ◌++◌, ◌∷◌, map, take}
use Rattle.std.specs.Prelude.{flat_map}
use Rattle.sg_walk.specs.Model.{writes_of}
use Rattle.sg_text.specs.Walks.{write_text}
use Rattle.sg_text.proofs.walk.put_more.Given as goal

abbrev pub invariant-writes : goal.invariant-writes
invariant-writes l = l.out ≡ l.initial.out ++ flat_map (λ t. 44 ∷ t) (map (write_text l.graph) (writes_of (take l.write-index l.writes)))
