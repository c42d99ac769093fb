-- The order of views, as what a comparison answers.
use Rattle.std.specs.Prelude.{◌≡◌, ℕ, ◌+◌, List, length, get_or, Option, Some, None, AllPairs, ◌<◌, ◌≤◌}
use Rattle.std.specs.declared.cmp.Ordering.{Ordering}
use Rattle.std.specs.declared.cmp.Ordering.TheVariants.{Less, Greater}
use Rattle.std.specs.Ordering.{nat_cmp, ordering_then}
use Rattle.std.specs.Cmp.Lexicographic.{slice_cmp}
use Rattle.sg_model.specs.Limits.{most_views}
use Rattle.sg_protocol.specs.Evidence.{Seen, View, mask}
use Rattle.sg_vis.specs.Table.{ShownView}

-- 0 for the start, and otherwise one more than the label
abbrev pub origin_number : Option ℕ → ℕ
origin_number None = 0
origin_number (Some label) = label + 1

-- by the label, and then by the mask
abbrev pub seen_compared : Seen → Seen → Ordering
seen_compared a b = ordering_then (nat_cmp a.label b.label) (nat_cmp (mask a.delta) (mask b.delta))

-- by the first items that differ. The beginning of a list comes before it
abbrev pub items_compared : List Seen → List Seen → Ordering
items_compared xs ys = slice_cmp seen_compared xs ys

-- by the origin, and then by the items
abbrev pub compared : View → View → Ordering
compared a b = ordering_then (nat_cmp (origin_number a.origin) (origin_number b.origin)) (items_compared a.items b.items)

-- each view comes before each later one, and there are at most 4,096
pub record HoldsTable (table : List ShownView) : Type 0 where
  pub ordered : AllPairs (λ a b. compared a.view b.view ≡ Less) table
  pub few : length table ≤ most_views

-- the view would stand at index i: each view before it comes before the view, and each from there on comes after it
pub record BelongsAt (table : List ShownView) (v : View) (i : ℕ) : Type 0 where
  pub within : i ≤ length table
  pub before : (k : ℕ) (d : ShownView) → k < i → k < length table → compared (get_or table k d).view v ≡ Less
  pub after : (k : ℕ) (d : ShownView) → i ≤ k → k < length table → compared (get_or table k d).view v ≡ Greater
