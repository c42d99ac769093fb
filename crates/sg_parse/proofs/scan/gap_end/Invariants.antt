use Rattle.std.proofs.Common.{◌≡◌, ◌≤◌, ◌-◌, length, drop}
use Rattle.sg_parse.specs.Tokens.{tokens_from, Apart}
use Rattle.sg_parse.proofs.scan.gap_end.Given as goal

abbrev pub decreases-gap : goal.decreases-gap
decreases-gap l = length l.bytes - l.at

abbrev pub invariant-gap : goal.invariant-gap
invariant-gap l = (l.at ≤ length l.bytes) × (tokens_from Apart l.from (drop l.from l.bytes) ≡ tokens_from Apart l.at (drop l.at l.bytes))
