use Rattle.std.proofs.Common.{◌≡◌, take}
use Rattle.sg_node.proofs.node.claimed.Given as goal

-- these were claimed
abbrev pub invariant-loop-sid : goal.invariant-loop-sid
invariant-loop-sid l = l.cache.pairs ≡ take l.sid-index l.joins
