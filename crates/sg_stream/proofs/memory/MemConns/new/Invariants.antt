use Rattle.std.proofs.Common.{◌≡◌, [], length, All}
use Rattle.sg_stream.proofs.memory.MemConns.new.Given as goal

abbrev pub invariant-loop : goal.invariant-loop
invariant-loop l = (length l.spare.items ≡ l.counter) × All (λ s. s.bytes ≡ []) l.spare.items
