use Rattle.std.proofs.Common.{◌≡◌, take}
use Rattle.std.specs.List.{All}
use Rattle.sg_protocol.specs.IsSchedule.{parts}
use Rattle.sg_compile.specs.All.{pairs_of}
use Rattle.sg_compile.specs.Compiled.{IsWhole}
use Rattle.sg_compile.proofs.all.add_all.Given as goal

abbrev pub invariant-loop-index : goal.invariant-loop-index
invariant-loop-index l = record {
  each : All IsWhole l.programs;
  all : pairs_of l.programs ≡ parts (take l.index l.graphs);
}
