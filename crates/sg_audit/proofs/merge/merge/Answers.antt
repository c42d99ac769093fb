use Rattle.std.proofs.Common.{subst, map}
use Rattle.std.specs.Prelude.{IsPermutation}
use Rattle.std.proofs.lemmas.List.Sorted.{IsPermutation-map}
use Rattle.sg_walk.specs.Model.{event_of}
use Rattle.sg_audit.proofs.merge.merge.Goals as goal

pub returns-clause-all : goal.returns-clause-all
returns-clause-all c =
    subst (λ es. IsPermutation es (map event_of c.sort_by_time.new.events.items)) c.in_ok-events.ensures (IsPermutation-map event_of _ _ c.sort_by_time.ensures.all)
