use Rattle.std.proofs.Common.{◌≡◌, ◌+◌, ◌≤◌, length, vec_capacity}
use Rattle.std.specs.List.{All}
use Rattle.sg_ledger.specs.Memory.{picked}
use Rattle.sg_ledger.proofs.medium.tear_all.Given as goal

abbrev pub invariant-loop-rest : goal.invariant-loop-rest
invariant-loop-rest l = record {
  ranges : All (λ r. r.0 + r.1 ≤ l.room) l.rest;
  image : picked l.image.items l.rest l.left ≡ picked l.initial.image.items l.tears l.picks;
  fits : length l.image.items ≤ l.room;
  room : l.room ≤ vec_capacity l.image;
  buffer : l.room ≤ vec_capacity l.buffer;
}

abbrev pub decreases-loop-rest : goal.decreases-loop-rest
decreases-loop-rest l = length l.rest
