use Rattle.std.proofs.Common.{◌≡◌, ◌∷◌, [], take}
use Rattle.std.specs.List.{flat_map}
use Rattle.sg_protocol.specs.Evidence.{mask}
use Rattle.sg_vis.specs.Order.{origin_number}
use Rattle.sg_views.specs.Keys.{AreSets}
use Rattle.sg_views.proofs.states.key_of.Given as goal

abbrev pub invariant-loop-item : goal.invariant-loop-item
invariant-loop-item l =
    (l.key.items ≡ l.fn.node ∷ origin_number l.fn.view.origin ∷ flat_map (λ s. s.label ∷ mask s.delta ∷ []) (take l.item-index l.item-items))
    × AreSets (take l.item-index l.item-items)
