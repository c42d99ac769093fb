use Rattle.std.proofs.Common.{◌≡◌, ℕ, ◌∙◌, ap, sym, subst, rules}
use Rattle.std.specs.List.{AllByRecursion}
use Rattle.sg_protocol.specs.Frame.{IsItem}
use Rattle.sg_protocol.specs.Schedule.{Craft, CraftItem}
use Rattle.sg_protocol.specs.Spelling.{HasSpelling}
use Rattle.sg_craft.specs.Making.{zero_item}
use Rattle.sg_craft.specs.Means.{Means}
use Rattle.sg_craft.proofs.ItemLaws.{items_after, known_of}
use Rattle.sg_craft.proofs.FrameLaws.{zeros_of_frame, zero_spelled}
use Rattle.sg_craft.proofs.frame.zero_frame.Goals as goal

pub returns-clause-range : goal.returns-clause-range
returns-clause-range c =
    let m : Means = c.args.means.now in
    let v : ℕ = c.args.means.now.cast.version in
    let know : c.as_slice.result.now ≡ c.args.craft.now.know = c.as_slice.ensures ∙ ap (λ (x : Craft). x.know) c.craft.view_is in
    let wanted : c.as_slice-2.result.now ≡ c.args.craft.now.items = c.as_slice-2.ensures ∙ ap (λ (x : Craft). x.items) c.craft.view_is in
    let ranges : AllByRecursion (IsItem v) c.in_ok-items.items =
    c.in_ok-items.ensures.ranges (subst (AllByRecursion (λ (i : CraftItem). IsItem v (zero_item m i))) (sym wanted) (zeros_of_frame m c.args.craft.now c.requires)) in
    let is : c.in_ok-items.items ≡ items_after m (known_of m c.args.craft.now.know) c.args.craft.now.items = c.in_ok-items.ensures.items ∙ (λ j. items_after m (known_of m (know j)) (wanted j)) in
    subst HasSpelling (sym (search rules)) (zero_spelled m c.args.craft.now c.requires (subst (AllByRecursion (IsItem v)) is ranges))
