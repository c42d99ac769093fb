use Rattle.sg_craft.proofs.ItemLaws.{Crafting}
use Rattle.sg_craft.proofs.item.craft_items.Given as goal

abbrev pub invariant-loop-item : goal.invariant-loop-item
invariant-loop-item l = Crafting l.means l.fn.know l.wanted l.item-index l.items l.current.items
