use Rattle.std.proofs.Common.{◌≡◌, ◌-◌, ◌<◌, ℕ, true, drop, length}
use Rattle.sg_model.specs.Last.{has}
use Rattle.sg_model.specs.Lists.{is_in}
use Rattle.sg_protocol.specs.Verdict.{has_right_tags}
use Rattle.sg_role.proofs.view.has_right_tags.Given as goal

abbrev pub invariant-loop-back : goal.invariant-loop-back
invariant-loop-back l = (has_right_tags l.program (drop (length l.items - l.back) l.items) ≡ true) × ((t : ℕ) → t < 16 → is_in t l.later ≡ has (λ i. i.role) t (drop (length l.items - l.back) l.items))
