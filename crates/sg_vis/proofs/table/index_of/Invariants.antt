use Rattle.std.proofs.Common.{◌≡◌, ℕ, ◌-◌, ◌<◌, ◌≤◌, length, get_or}
use Rattle.std.specs.declared.cmp.Ordering.TheVariants.{Less, Greater}
use Rattle.sg_vis.specs.Order.{compared}
use Rattle.sg_vis.specs.Model.{origin_of}
use Rattle.sg_vis.specs.Table.{ShownView, view_from}
use Rattle.sg_vis.proofs.table.index_of.Given as goal

abbrev pub invariant-loop-low : goal.invariant-loop-low
invariant-loop-low l =
    (l.low ≤ l.high) × (l.high ≤ length l.rows)
    × ((k : ℕ) (d : ShownView) → k < l.low → compared (get_or l.rows k d).view (view_from (origin_of l.from) l.items) ≡ Less)
    × ((k : ℕ) (d : ShownView) → l.high ≤ k → k < length l.rows → compared (get_or l.rows k d).view (view_from (origin_of l.from) l.items) ≡ Greater)

abbrev pub decreases-loop-low : goal.decreases-loop-low
decreases-loop-low l = l.high - l.low
