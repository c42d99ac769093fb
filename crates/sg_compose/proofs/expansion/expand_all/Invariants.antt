use Rattle.std.proofs.Common.{◌≡◌, [], length, drop}
use Rattle.sg_compose.specs.Expansion.{expansions}
use Rattle.sg_compose.proofs.expansion.expand_all.Given as goal

abbrev pub invariant-loop-part : goal.invariant-loop-part
invariant-loop-part l = record {
  so_far : expansions l.graphs (drop l.part-index l.parts) ≡ expansions [] l.parts;
  count : length l.graphs ≡ l.part-index;
}
