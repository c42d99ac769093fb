-- What is seen of a walk with one more edge.
use Rattle.std.specs.Prelude.{ℕ, ◌<◌, ◌==◌, ◌||◌, if◌then◌else◌, List, [], ◌∷◌, filter, length, Some, All}
use Rattle.sg_model.specs.Lists.{is_in, below}
use Rattle.sg_model.specs.Shape.{sender}
use Rattle.sg_protocol.specs.Graph.{Graph, shape, writes}
use Rattle.sg_protocol.specs.Evidence.{Seen, View}

-- the variables of both sets, in rising order
unfoldable pub joined : List ℕ → List ℕ → List ℕ
joined xs ys = filter (λ x. is_in x xs || is_in x ys) (below 32)

-- the items after edge e: that of its sender goes, and what it brought is joined to the item after it. What is carried is joined to the first
abbrev pub items_after : Graph → ℕ → List ℕ → List Seen → List Seen
items_after g e carried [] = record { label = e; delta = joined carried (writes g e) } ∷ []
items_after g e carried (i ∷ is) =
    if sender (shape g) i.label == sender (shape g) e
    then items_after g e (joined carried i.delta) is
    else (record { label = i.label; delta = joined carried i.delta } ∷ items_after g e [] is)

-- what r sees after edge e, which begins again with its own steps
abbrev pub next_view : Graph → ℕ → View → ℕ → View
next_view g r v e =
    if sender (shape g) e == r
    then record { origin = Some e; items = [] }
    else record { origin = v.origin; items = items_after g e [] v.items }

-- the items are of edges of the graph
abbrev pub HasLabels : Graph → View → Type 0
HasLabels g v = All (λ s. s.label < length g.edges) v.items
