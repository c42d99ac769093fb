use Rattle.std.proofs.Common.{◌≡◌, ◌≤◌, ◌-◌, length, drop}
use Rattle.sg_parse.specs.Tokens.{tokens_from, OfComment}
use Rattle.sg_parse.proofs.scan.comment_end.Given as goal

abbrev pub decreases-comment : goal.decreases-comment
decreases-comment l = length l.bytes - l.at

abbrev pub invariant-comment : goal.invariant-comment
invariant-comment l = (l.from ≤ l.at) × (l.at ≤ length l.bytes)
    × (tokens_from OfComment l.from (drop l.from l.bytes) ≡ tokens_from OfComment l.at (drop l.at l.bytes))
