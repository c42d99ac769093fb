use Rattle.std.proofs.Common.{◌≡◌, ◌++◌, not, filter, drop}
use Rattle.sg_model.specs.Last.{has}
use Rattle.sg_role.proofs.evidence.tags_without.Given as goal

abbrev pub invariant-loop-at : goal.invariant-loop-at
invariant-loop-at l = l.list ++ filter (λ t. not (has (λ j. j.role) t.0 l.later)) (drop l.at l.tags) ≡ filter (λ t. not (has (λ j. j.role) t.0 l.later)) l.tags
