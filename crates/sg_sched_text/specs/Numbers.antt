-- What lines give by names, made numbers if all names are declared.
use Rattle.std.specs.Prelude.{ℕ, ◌-◌, List, [], ◌∷◌, filter_map, position, bytes_eq, Option, Some, option_map, option_and_then}
use Rattle.sg_model.specs.Last.{Map}
use Rattle.sg_model.specs.Lists.{range_from, value_at}
use Rattle.sg_model.specs.Names.{Name}
use Rattle.sg_model.specs.Values.{Value}
use Rattle.sg_sched.specs.Format.LineContents.{Assignment}
use Rattle.sg_sched.specs.Format.Values.{value_of}

-- what is made of each, if something is made of all
abbrev pub all_made : {A B : Type 0} → (A → Option B) → List A → Option (List B)
all_made make [] = Some []
all_made make (x ∷ xs) = option_and_then (λ y. option_map (λ ys. y ∷ ys) (all_made make xs)) (make x)

-- the number of the variable that is given
abbrev pub number_of : List Name → Assignment → Option ℕ
number_of names v = position (bytes_eq v.variable) names

-- the number of each variable, if all are declared
abbrev pub numbers_of : List Name → List Assignment → Option (List ℕ)
numbers_of names vs = all_made (number_of names) vs

-- each number with the value that stands in its place
abbrev pub numbered : List ℕ → List Assignment → Map Value
numbered (x ∷ xs) (v ∷ vs) = (x, value_of v.value) ∷ numbered xs vs
numbered xs vs = []

-- the values of the numbers from x on, of those below 32, in rising number
unfoldable pub from_number : ℕ → Map Value → Map Value
from_number x m = filter_map (λ x. option_map (λ v. (x, v)) (value_at m x)) (range_from x (32 - x))
