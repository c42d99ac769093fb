use Rattle.std.proofs.Common.{ℕ, ◌<◌, ◌++◌, List, length, reverse, get_or}
use Rattle.sg_protocol.specs.Graph.{Graph}
use Rattle.sg_views.specs.Search.{Arrives, Searched}
use Rattle.sg_views.specs.declared.states.State.{State}
use Rattle.sg_views.proofs.search.walk_to.Given as goal

abbrev pub invariant-loop-index : goal.invariant-loop-index
invariant-loop-index l =
    (l.index < length l.states)
    × ((g : Graph) (r : ℕ) → Searched g r l.states → (d : State) (walk : List ℕ) → Arrives g r (get_or l.states l.index d) walk → Arrives g r (get_or l.states l.at d) (walk ++ reverse l.labels.items))

abbrev pub decreases-loop-index : goal.decreases-loop-index
decreases-loop-index l = l.index
