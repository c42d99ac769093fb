-- Lists of different labels.
use Rattle.std.specs.Prelude.{ℕ, Bool, true, not, ◌&&◌, List, [], ◌∷◌}
use Rattle.sg_model.specs.Lists.{is_in}

-- no number stands in the list twice
abbrev pub are_once : List ℕ → Bool
are_once [] = true
are_once (l ∷ ls) = not (is_in l ls) && are_once ls
