use Rattle.std.proofs.Common.{◌≡◌, ◌++◌, length, map}
use Rattle.std.specs.Prelude.{option_map}
use Rattle.sg_audit.specs.Reading.{steps}
use Rattle.sg_audit.specs.TakingLines.{step_in_line}
use Rattle.sg_audit.proofs.step.read_steps.Given as goal

abbrev pub invariant-words : goal.invariant-words
invariant-words l = option_map (λ ss. map step_in_line l.all ++ ss) (steps l.graph l.words) ≡ steps l.graph l.fn.words

abbrev pub decreases-words : goal.decreases-words
decreases-words l = length l.words
