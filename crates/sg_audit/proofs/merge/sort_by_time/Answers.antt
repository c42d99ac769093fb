use Rattle.std.proofs.Common.{rules}
use Rattle.std.proofs.lemmas.List.Sorted.{IsNonDecreasingBy-from_sort_by_key}
use Rattle.sg_walk.specs.Model.{event_of}
use Rattle.sg_audit.specs.Merged.{moment}
use Rattle.sg_audit.proofs.Moments.{ascend_sorted}
use Rattle.sg_audit.proofs.merge.sort_by_time.Goals as goal

pub returns-clause-ascends : goal.returns-clause-ascends
returns-clause-ascends c =
    ascend_sorted event_of _ (IsNonDecreasingBy-from_sort_by_key (λ e. moment (event_of e)) _ c.sort_unstable_by_key.ensures.sorted (λ a r q k. search rules))
