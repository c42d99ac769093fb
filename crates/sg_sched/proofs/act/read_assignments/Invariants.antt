use Rattle.std.proofs.Common.{◌≡◌, length, ◌++◌, option_map}
use Rattle.sg_sched.specs.Format.Reading.{assignments}
use Rattle.sg_sched.proofs.act.read_assignments.Given as goal

abbrev pub invariant-words : goal.invariant-words
invariant-words l = assignments l.fn.words ≡ option_map (λ vs. l.values ++ vs) (assignments l.words)

abbrev pub decreases-words : goal.decreases-words
decreases-words l = length l.words
