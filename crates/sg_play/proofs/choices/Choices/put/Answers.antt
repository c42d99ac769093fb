use Rattle.std.proofs.Common.{◌≡◌, ◌∙◌, sym, subst, ℕ, List, [], ◌∷◌, ◌++◌, if◌then◌else◌}
use Rattle.sg_play.specs.Queues.{HoldsChoices, queue_at, is_spot, Spot}
use Rattle.sg_play.proofs.Queues.{holds_more, holds_none, Table}
use Rattle.sg_play.proofs.Results.{mapped}
use Rattle.sg_play.proofs.choices.Choices.put.Goals as goal

pub returns-then-has_uses : goal.returns-then-has_uses
returns-then-has_uses c =
    let new = c.put_at.new.table.entries in
    let old = c.self.inside.table.entries in
    mapped c.put_at.result _ _ (λ u cs h.
    holds_more old new cs c.args.choice (sym c.has_uses.ensures ∙ c.if-has_uses.true)
    (subst (λ (s : Spot). (g : List ℕ) (n : ℕ) → queue_at new g n ≡ queue_at old g n ++ (if is_spot g n s then c.args.choice ∷ [] else [])) c.spot_of-spot.ensures u)
    (subst (λ (t : Table). HoldsChoices t cs) (sym c.self.view_is) h))
    c.put_at.ensures

pub returns-else-has_uses : goal.returns-else-has_uses
returns-else-has_uses c = λ cs h. holds_none c.args.self.now cs c.args.choice (sym c.has_uses.ensures ∙ c.if-has_uses.false) h
