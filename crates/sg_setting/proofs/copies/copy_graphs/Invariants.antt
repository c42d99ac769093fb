use Rattle.std.proofs.Common.{◌≡◌, take}
use Rattle.sg_setting.proofs.copies.copy_graphs.Given as goal

-- the copies so far
abbrev pub invariant-loop-graph : goal.invariant-loop-graph
invariant-loop-graph l = l.copies ≡ take l.graph-index l.graphs
