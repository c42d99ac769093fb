-- What a crash leaves while the join of a call is kept.
use Rattle.std.proofs.Common.{ℕ, List, length, refl, sym, ◌∙◌}
use Rattle.sg_joins.specs.Images.{RepresentsEither}
use Rattle.sg_joins.specs.Joins.{join_reported, with_join}
use Rattle.sg_ledger.specs.Disk.{LeavesOnly}
use Rattle.sg_play.specs.Played.{Play, with_turn}
use Rattle.sg_protocol.specs.Calls.{Call}
use Rattle.sg_report.specs.Outcome.{outcome_of}
use Rattle.sg_report.specs.declared.outcome.Outcome.{Outcome}
use Rattle.sg_keep.specs.KeptRuns.{LeavesAtMost, RepresentsMore}
use Rattle.sg_keep.specs.Representation.{HasAskedNode, IsAsked}
use Rattle.sg_keep.specs.declared.keeper.Keeper.{Keeper}
use Rattle.sg_keep.proofs.Asking.{ledger_has, node_has, node_joins}
use Rattle.sg_keep.proofs.AtMost.{call_at_most}
use Rattle.sg_keep.proofs.Moments.{either_more, more_with}

-- the joins of the ledger, and then others; and at most one more than a play has reported
pub left_by : {D : Type 0} (moment : D → ℕ) (left_since : D → ℕ → List ℕ → Type 0) (old new : D) (k : Keeper) (may_leave : List ℕ → Type 0) (o : Outcome) → HasAskedNode k may_leave o
    → LeavesOnly moment left_since old new (RepresentsEither k.ledger.joins (with_join k.ledger.joins (join_reported (outcome_of o))))
    → LeavesOnly moment left_since old new (RepresentsMore k.ledger.joins) × ((p : Play) (c : Call) → IsAsked k p c o → LeavesAtMost moment left_since old new (with_turn p c) (length p.past.calls))
left_by moment left_since old new k may_leave o h either =
    let join = join_reported (outcome_of o) in
    let full = with_join k.ledger.joins join in (
      either_more moment left_since old new k.ledger.joins full (more_with k.ledger.joins join) either,
      λ p c a. call_at_most moment left_since old new p c k.ledger.joins full (ledger_has k p c o a) (sym (node_joins k may_leave o h join refl) ∙ node_has k p c o a) either,
    )
