use Rattle.std.proofs.Common.{◌≡◌, ◌++◌}
use Rattle.std.specs.List.{All}
use Rattle.sg_compile.specs.All.{pairs_of, roles_of}
use Rattle.sg_compile.specs.Compiled.{IsWhole}
use Rattle.sg_compile.proofs.Apart.{IsApart}
use Rattle.sg_compile.proofs.all.add_roles.Given as goal

abbrev pub invariant-loop-number : goal.invariant-loop-number
invariant-loop-number l = record {
  each : All IsWhole l.programs;
  apart : All (IsApart l.graph l.number) l.programs;
  added : pairs_of l.programs ≡ pairs_of l.initial.programs ++ roles_of l.graph l.number;
}
