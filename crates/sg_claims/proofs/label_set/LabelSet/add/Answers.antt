use Rattle.std.proofs.Common.{ℕ, List, ◌<◌, ◌≡◌, false, sym, subst, ◌∷◌, [], ◌++◌, true, set}
use Rattle.sg_model.specs.Lists.{is_in}
use Rattle.sg_claims.specs.Invariant.{HoldsLabels}
use Rattle.sg_claims.proofs.Labelled.{more_holds}
use Rattle.sg_claims.proofs.label_set.LabelSet.add.Goals as goal

pub invariant_of-self-2 : goal.invariant_of-self-2
invariant_of-self-2 c =
    let l = c.label.inside.0 in
    let room : l < 512 = subst (λ n. n < 512) (sym c.label.view_is) c.requires.there in
    let absent : is_in l c.self.inside.labels.items ≡ false = subst (λ (ls : List ℕ). is_in l ls ≡ false) (sym c.self.view_is) (subst (λ n. is_in n c.args.self.now ≡ false) (sym c.label.view_is) c.requires.absent) in
    let items : c.push.new.self.items ≡ c.self.inside.labels.items ++ l ∷ [] = subst (λ n. c.push.new.self.items ≡ c.self.inside.labels.items ++ n ∷ []) (sym c.label.view_is) c.in_ok-push.ensures.items in
    subst (λ ls. HoldsLabels ls (set c.self.inside.table l true)) (sym items) (more_holds c.self.inside.labels.items c.self.inside.table l c.self.invariant absent room)
