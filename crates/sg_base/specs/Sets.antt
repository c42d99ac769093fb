-- Sets of small numbers, as the numbers in rising order.
use Rattle.std.specs.Prelude.{ℕ, ◌^◌, ◌==◌, ◌||◌, List, filter, sum_by}
use Rattle.std.specs.Int.{bit_at}
use Rattle.sg_model.specs.Lists.{below, is_in}

-- the numbers below the width whose bit is 1, in rising order
unfoldable pub members : ℕ → ℕ → List ℕ
members width mask = filter (λ x. bit_at mask x == 1) (below width)

-- the mask that has the bit of each number
abbrev pub mask_of : List ℕ → ℕ
mask_of xs = sum_by (λ x. 2 ^ x) xs

-- the set of width numbers, with x
unfoldable pub with_member : ℕ → List ℕ → ℕ → List ℕ
with_member width xs x = filter (λ y. (y == x) || is_in y xs) (below width)

-- the set of width numbers, of those that stand in the list
unfoldable pub set_of : ℕ → List ℕ → List ℕ
set_of width xs = filter (λ y. is_in y xs) (below width)
