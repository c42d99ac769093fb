-- What a count of faults comes to that rose by so much.
use Rattle.std.proofs.Common.{ℕ, ◌+◌, ◌≤◌, inl, inr, arith}
use Rattle.sg_base.specs.Outside.{HasRisen}
use Rattle.sg_serve.specs.Served.{RoseBy}

pub rose_on : (n old mid new : ℕ) → RoseBy n old mid → mid ≤ new → RoseBy n old new
rose_on n old mid new (inl h) l = inl (omega (arith, h, l))
rose_on n old mid new (inr h) l = inr (omega (arith, h, l))

pub rose_more : (n old mid new : ℕ) → RoseBy n old mid → mid ≤ new → HasRisen mid new → RoseBy (n + 1) old new
rose_more n old mid new (inl h) l (inl r) = inl (omega (arith, h, r))
rose_more n old mid new (inl h) l (inr r) = inr (omega (arith, r, l))
rose_more n old mid new (inr h) l r = inr (omega (arith, h, l))

pub rose_none : (n : ℕ) → RoseBy 0 n n
rose_none n = inl (omega arith)
