use Rattle.std.proofs.Common.{◌≡◌, [], drop, take}
use Rattle.sg_compose.specs.Early.{first_use_suits}
use Rattle.sg_compose.specs.Expansion.{expansions}
use Rattle.sg_compose.proofs.FirstUse.{graphs_of}
use Rattle.sg_compose.proofs.expansion.check_first_use.Given as goal

abbrev pub invariant-loop-part : goal.invariant-loop-part
invariant-loop-part l = record {
  so_far : expansions (graphs_of (take l.part-index l.parts)) (drop l.part-index l.parts) ≡ expansions [] l.parts;
  suits : first_use_suits (graphs_of (take l.part-index l.parts)) (drop l.part-index l.parts) ≡ first_use_suits [] l.parts;
}
