use Rattle.std.proofs.Common.{◌≡◌, ◌<◌, ℕ, filter, not}
use Rattle.sg_model.specs.Lists.{is_in, keys_of}
use Rattle.sg_role.proofs.view.has_tags.Given as goal

abbrev pub invariant-loop-number : goal.invariant-loop-number
invariant-loop-number l = (t : ℕ) → t < l.number → is_in t (keys_of l.tags) ≡ is_in t (filter (λ t. not (is_in t l.later)) l.targets)
