use Rattle.std.proofs.Common.{◌≡◌, ◌++◌, List, [], ◌∷◌, length, slice_set, Option, Some, sym, ap, ◌∙◌, append-nil, append_assoc}
use Rattle.sg_model.specs.Values.{Opening}
use Rattle.sg_role.proofs.Showing.{all_kept, taken_more}
use Rattle.sg_role.proofs.evidence.take_over.Goals as goal

pub loop-opening-init : goal.loop-opening-init
loop-opening-init c = ([], append-nil c.args.written.items, all_kept c.args.openings.now.items)

pub loop-opening-preserved : goal.loop-opening-preserved
loop-opening-preserved c =
    let a = c.loop-opening.invariant in
    let o = c.in-Some.opening in
    let left : c.loop-opening.written.items ≡ c.pop.new.self.items ++ o ∷ [] = c.in-Some.ensures.items in (
      o ∷ a.0,
      sym (append_assoc c.pop.new.self.items (o ∷ []) a.0) ∙ ap (λ l. l ++ a.0) (sym left) ∙ a.1,
      c.put.ensures ∙ ap (λ (l : List (Option Opening)). slice_set l o.variable (Some o)) a.2 ∙ taken_more (length c.args.openings.now.items) c.args.openings.now.items o a.0,
    )
