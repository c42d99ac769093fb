use Rattle.std.proofs.Common.{◌≡◌, ◌++◌, map, take}
use Rattle.sg_protocol.specs.Graph.{spaced}
use Rattle.sg_compile.specs.Text.{item_text}
use Rattle.sg_compile.proofs.text.put_items.Given as goal

abbrev pub invariant-loop-item : goal.invariant-loop-item
invariant-loop-item l = l.out ≡ l.initial.out ++ spaced (map (item_text l.graph) (take l.item-index l.items))
