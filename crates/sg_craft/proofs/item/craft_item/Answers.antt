use Rattle.std.proofs.Common.{◌≡◌, ℕ, ◌∙◌, ap, sym, subst, List, map, rules}
use Rattle.std.specs.List.{AllByRecursion}
use Rattle.sg_protocol.specs.Frame.{IsItem, IsTag}
use Rattle.sg_protocol.specs.Schedule.{CraftItem}
use Rattle.sg_sched.specs.Format.Crafts.{tag_of}
use Rattle.sg_craft.specs.Making.{tag_made}
use Rattle.sg_craft.proofs.ItemLaws.{made_in_range}
use Rattle.sg_craft.proofs.item.craft_item.Goals as goal

pub returns-clause-range : goal.returns-clause-range
returns-clause-range c = λ h.
    let v : ℕ = c.args.means.now.cast.version in
    let all : map tag_of c.as_slice-3.result.now ≡ c.args.wanted.now.tags = ap (map tag_of) c.as_slice-3.ensures ∙ ap (λ (w : CraftItem). w.tags) c.wanted.view_is in
    let each : AllByRecursion (λ (t : ℕ × List ℕ). IsTag v t.1) (map (tag_made c.args.means.now c.args.wanted.now c.overwrite.new.current) c.args.wanted.now.tags) =
    subst (AllByRecursion (λ (t : ℕ × List ℕ). IsTag v t.1)) (c.in_ok-tags.ensures.tags ∙ ap (map (tag_made c.args.means.now c.args.wanted.now c.overwrite.new.current)) all) c.in_ok-tags.ensures.each in
    subst (IsItem v) (sym (search rules)) (made_in_range c.args.means.now v c.overwrite.new.current c.args.wanted.now h each)
