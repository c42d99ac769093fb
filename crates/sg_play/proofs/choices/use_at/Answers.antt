use Rattle.std.proofs.Common.{◌≡◌, ap, sym, Some, unwrap_or, [], subst, IsSome, refl, cond, List}
use Rattle.std.specs.Map.{lookup}
use Rattle.sg_script.specs.Script.{Choice}
use Rattle.sg_play.specs.Queues.{Spot}
use Rattle.sg_play.proofs.Queues.{used_at, none_at, eq}
use Rattle.sg_play.proofs.choices.use_at.Goals as goal

pub returns-in-Some : goal.returns-in-Some
returns-in-Some c =
    let new = (c.get_mut.follows.lender c.use_first.new.self).entries in
    let u = ((c.get_mut.follows.holds c.use_first.new.self).3 (subst (λ o. IsSome o) c.in-Some.ensures.value refl)).0 in
    used_at c.args.table.now.entries new c.args.spot c.in-Some.queue.now (sym (ap (λ o. unwrap_or o []) c.in-Some.ensures.value))
    (subst (λ (w : List Choice). (k : Spot) → lookup (eq k) new ≡ cond (eq c.args.spot k) (Some w) (lookup (eq k) c.args.table.now.entries)) c.use_first.ensures u)

pub returns-in_default : goal.returns-in_default
returns-in_default c = λ g n. rw c.get_mut.follows.holds-at-none (none_at c.args.table.now.entries c.args.spot (sym c.in_default.ensures.value) g n)
