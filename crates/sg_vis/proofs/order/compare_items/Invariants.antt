use Rattle.std.proofs.Common.{◌≡◌, ◌-◌, ◌≤◌, length, take, drop}
use Rattle.sg_vis.specs.Order.{items_compared}
use Rattle.sg_vis.proofs.order.compare_items.Given as goal

abbrev pub invariant-loop-at : goal.invariant-loop-at
invariant-loop-at l =
    (l.at ≤ length l.one) × (l.at ≤ length l.two) × (take l.at l.one ≡ take l.at l.two)
    × (items_compared l.one l.two ≡ items_compared (drop l.at l.one) (drop l.at l.two))

abbrev pub decreases-loop-at : goal.decreases-loop-at
decreases-loop-at l = length l.one - l.at
