use Rattle.std.proofs.Common.{◌≡◌, ap, sym, ◌∙◌, unwrap_or, [], subst}
use Rattle.std.specs.Map.{lookup}
use Rattle.sg_play.specs.Queues.{HoldsChoices, Spot}
use Rattle.sg_play.proofs.Queues.{found_first, Table, eq}
use Rattle.sg_play.proofs.choices.Choices.first.Goals as goal

pub returns-in-Some : goal.returns-in-Some
returns-in-Some c = λ cs h. c.first.ensures ∙ found_first c.self.inside.table.entries c.args.graph.now c.args.node cs c.in-Some.queue.now
    (subst (λ (s : Spot). unwrap_or (lookup (eq s) c.self.inside.table.entries) [] ≡ c.in-Some.queue.now) c.spot.ensures (ap (λ o. unwrap_or o []) (sym c.in-Some.ensures.value)))
    (subst (λ (t : Table). HoldsChoices t cs) (sym c.self.view_is) h)

pub returns-in-None : goal.returns-in-None
returns-in-None c = λ cs h. found_first c.self.inside.table.entries c.args.graph.now c.args.node cs []
    (subst (λ (s : Spot). unwrap_or (lookup (eq s) c.self.inside.table.entries) [] ≡ []) c.spot.ensures (ap (λ o. unwrap_or o []) (sym c.in-None.ensures.value)))
    (subst (λ (t : Table). HoldsChoices t cs) (sym c.self.view_is) h)
