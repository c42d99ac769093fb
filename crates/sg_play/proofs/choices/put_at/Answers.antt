use Rattle.std.proofs.Common.{◌≡◌, ap, sym, ◌∙◌, Some, unwrap_or, [], ◌∷◌, ◌++◌, subst, IsSome, refl, cond, List}
use Rattle.std.specs.Map.{lookup}
use Rattle.sg_script.specs.Script.{Choice}
use Rattle.sg_play.specs.Queues.{Spot}
use Rattle.sg_play.proofs.Queues.{pushed, eq}
use Rattle.sg_play.proofs.Results.{mapped}
use Rattle.sg_play.proofs.choices.put_at.Goals as goal

pub returns-in-Some : goal.returns-in-Some
returns-in-Some c =
    let new = (c.get_mut.follows.lender c.push.new.self).entries in
    let u = ((c.get_mut.follows.holds c.push.new.self).3 (subst (λ o. IsSome o) c.in-Some.ensures.value refl)).0 in
    mapped c.push.result _ _ (λ e. pushed c.args.table.now.entries new c.args.spot c.in-Some.queue.now c.args.choice (sym (ap (λ o. unwrap_or o []) c.in-Some.ensures.value))
    (subst (λ (w : List Choice). (k : Spot) → lookup (eq k) new ≡ cond (eq c.args.spot k) (Some w) (lookup (eq k) c.args.table.now.entries)) e u)) c.push.ensures

pub returns : goal.returns
returns c =
    let u = rw c.get_mut.follows.holds-at-none at c.in_ok-insert.ensures.updates.0 in
    pushed c.args.table.now.entries c.insert.new.self.entries c.args.spot [] c.args.choice (sym (ap (λ o. unwrap_or o []) c.in_default.ensures.value))
    (subst (λ (w : List Choice). (k : Spot) → lookup (eq k) c.insert.new.self.entries ≡ cond (eq c.args.spot k) (Some w) (lookup (eq k) c.args.table.now.entries)) (c.in_ok-push.ensures ∙ ap (λ l. l ++ c.args.choice ∷ []) c.new-queue.ensures) u)
