use Rattle.std.proofs.Common.{◌≡◌, ◌++◌, map, take}
use Rattle.sg_compose.specs.Expansion.{new_variable}
use Rattle.sg_compose.proofs.add.add_vars.Given as goal

abbrev pub invariant-loop-number : goal.invariant-loop-number
invariant-loop-number l = l.graph ≡ record l.fn.graph { variables = l.fn.graph.variables ++ map (new_variable l.used) (take l.number l.inner.variables) }
