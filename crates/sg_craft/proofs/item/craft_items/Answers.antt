use Rattle.std.proofs.Common.{◌≡◌, ℕ, ◌+◌, ◌<◌, ◌∙◌, ap, sym, subst, List, ◌++◌, length, take, drop, get_or, Option, arith}
use Rattle.sg_protocol.specs.Crafted.{committed_to}
use Rattle.sg_protocol.specs.Frame.{Item, IsItem}
use Rattle.sg_protocol.specs.Schedule.{CraftItem}
use Rattle.sg_protocol.specs.Texts.{real}
use Rattle.sg_craft.specs.Making.{with_first_pairs, item_by, zero_item}
use Rattle.sg_craft.specs.Means.{Means}
use Rattle.sg_craft.proofs.CommitmentLaws.{whole_back}
use Rattle.sg_craft.proofs.ItemLaws.{Crafting, crafting_next}
use Rattle.sg_craft.proofs.item.craft_items.Goals as goal

pub loop-item-preserved : goal.loop-item-preserved
loop-item-preserved c =
    let m : Means = c.args.means.now in
    let i : ℕ = c.loop-item.item-index in
    let lt : i < length c.args.wanted.now = omega arith in
    let d : CraftItem = c.item-item.result in
    let made : Item = c.in_ok-craft_item.field-0 in
    let new : List (Option (List ℕ)) = c.craft_item.new.current in
    let long : length c.craft_item.new.current ≡ c.loop-item.current.len = omega arith in
    let back : take c.loop-item.current.len (c.craft_item.new.current ++ drop (length c.craft_item.new.current) c.loop-item.current.items) ≡ c.craft_item.new.current = whole_back c.loop-item.current.len c.craft_item.new.current _ long in
    let old : c.deref_mut.result.now ≡ c.loop-item.current.items = cc in
    let over : c.craft_item.new.current ≡ with_first_pairs c.loop-item.current.items (committed_to real m.sid (get_or c.args.wanted.now i d).delta) =
    c.in_ok-craft_item.ensures.current ∙ (λ j. with_first_pairs (old j) (committed_to real m.sid (c.item-item.is j).delta)) in
    let is : made ≡ item_by m c.craft_item.new.current (get_or c.args.wanted.now i d) = c.in_ok-craft_item.ensures.item ∙ ap (item_by m c.craft_item.new.current) c.item-item.is in
    subst (λ (l : List (Option (List ℕ))). Crafting m c.args.know.now c.args.wanted.now (i + 1) c.push.new.self l) (sym back)
    (subst (λ (l : List Item). Crafting m c.args.know.now c.args.wanted.now (i + 1) l c.craft_item.new.current) (sym c.in_ok-push.ensures.ok)
    (crafting_next m c.args.know.now c.args.wanted.now i c.loop-item.items c.loop-item.current.items c.craft_item.new.current d made c.loop-item.invariant lt over is
    (λ h. c.in_ok-craft_item.ensures.range (subst (λ (x : CraftItem). IsItem m.cast.version (zero_item m x)) (sym c.item-item.is) h))))
