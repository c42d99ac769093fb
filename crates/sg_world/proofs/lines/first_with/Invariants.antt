use Rattle.std.proofs.Common.{◌≡◌, length, nat_lt, find, take, None}
use Rattle.sg_world.proofs.lines.first_with.Given as goal

-- none so far has the variable
abbrev pub invariant-loop-graph : goal.invariant-loop-graph
invariant-loop-graph l = find (λ h. nat_lt l.var (length h.variables)) (take l.graph-index l.graphs) ≡ None
