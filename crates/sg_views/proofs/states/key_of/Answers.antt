use Rattle.std.proofs.Common.{◌≡◌, ◌<◌, ◌∙◌, ◌∷◌, ◌++◌, [], length, subst, ap}
use Rattle.std.proofs.lemmas.List.Elements.{All-more}
use Rattle.sg_base.specs.Sets.{members}
use Rattle.sg_protocol.specs.Evidence.{Seen, mask}
use Rattle.sg_vis.specs.Order.{origin_number}
use Rattle.sg_views.proofs.Lists.{flat_map-more}
use Rattle.sg_views.proofs.states.key_of.Goals as goal

pub loop-item-preserved : goal.loop-item-preserved
loop-item-preserved c =
    let items = c.as_slice-item-items.result.now in
    let i = c.loop-item.item-index in
    let l : i < length items = c.loop-item-test.true in (
      flat_map-more (λ (s : Seen). s.label ∷ mask s.delta ∷ []) items i c.item-item.result (c.args.node ∷ origin_number c.args.view.now.origin ∷ [])
          c.loop-item.key.items c.put_item.new.key.items l c.loop-item.invariant.0
          (c.in_ok-put_item.ensures.put ∙ ap (λ (s : Seen). c.loop-item.key.items ++ s.label ∷ mask s.delta ∷ []) c.item-item.is),
      All-more (λ (s : Seen). members 32 (mask s.delta) ≡ s.delta) items i c.item-item.result l c.loop-item.invariant.1
          (subst (λ (s : Seen). members 32 (mask s.delta) ≡ s.delta) c.item-item.is c.in_ok-put_item.ensures.set),
    )
