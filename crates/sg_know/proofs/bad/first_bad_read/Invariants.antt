use Rattle.std.proofs.Common.{◌<◌}
use Rattle.sg_know.specs.Reads.{HasBadRead}
use Rattle.sg_know.specs.Parts.{IsFirstBad}
use Rattle.sg_know.proofs.bad.first_bad_read.Given as goal

abbrev pub invariant-loop-number : goal.invariant-loop-number
invariant-loop-number l = IsFirstBad l.graph (λ e y. HasBadRead l.graph e y × (y < l.number)) l.first
