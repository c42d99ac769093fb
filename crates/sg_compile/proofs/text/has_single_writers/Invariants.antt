use Rattle.std.proofs.Common.{◌≡◌, ◌==◌, true, take, length}
use Rattle.std.specs.List.{list_all}
use Rattle.sg_protocol.specs.Graph.{Variable}
use Rattle.sg_compile.proofs.text.has_single_writers.Given as goal

abbrev pub invariant-loop-number : goal.invariant-loop-number
invariant-loop-number l = list_all (λ (v : Variable). length v.writers == 1) (take l.number l.graph.variables) ≡ true
