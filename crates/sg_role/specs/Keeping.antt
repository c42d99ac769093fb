-- What is kept of items, made from the front.
use Rattle.std.specs.Prelude.{ℕ, List, [], ◌∷◌, if◌then◌else◌}
use Rattle.sg_model.specs.Last.{Map, has, merge}
use Rattle.sg_model.specs.Lists.{in_order}
use Rattle.sg_protocol.specs.Frame.{Item}

-- the last item of each sender, with what was written since the one before it in the order of n variables; the first takes over what was written earlier
abbrev pub kept_from : ℕ → Map (List ℕ) → List Item → List Item
kept_from n earlier [] = []
kept_from n earlier (x ∷ xs) =
    if has (λ (i : Item). i.role) x.role xs
    then kept_from n (in_order n (merge earlier x.delta)) xs
    else (record x { delta = in_order n (merge earlier x.delta) } ∷ kept_from n [] xs)
