use Rattle.std.proofs.Common.{◌≡◌, ◌≤◌, [], length, All, vec_capacity}
use Rattle.sg_wait.proofs.memory.rooms.Given as goal

abbrev pub invariant-loop : goal.invariant-loop
invariant-loop l = (length l.spare.items ≡ l.counter) × All (λ v. (v.items ≡ []) × (l.most ≤ vec_capacity v)) l.spare.items
