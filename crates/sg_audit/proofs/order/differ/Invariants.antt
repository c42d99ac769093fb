use Rattle.std.proofs.Common.{◌≡◌, ◌<◌, ◌≤◌, ℕ, true, false, get_or, length, drop, map}
use Rattle.sg_model.specs.Lists.{is_in}
use Rattle.sg_audit.specs.LineContents.{differ}
use Rattle.sg_audit.proofs.order.differ.Given as goal

abbrev pub invariant-loop-left : goal.invariant-loop-left
invariant-loop-left g l =
    (l.left ≤ length l.pairs) × (length l.seen ≡ 256) × (differ (map (λ w. w.0) (drop l.left l.pairs)) ≡ true)
    × ((x : ℕ) → x < 256 → get_or l.seen x false ≡ is_in x (map (λ w. w.0) (drop l.left l.pairs)))

abbrev pub decreases-loop-left : goal.decreases-loop-left
decreases-loop-left g l = l.left
