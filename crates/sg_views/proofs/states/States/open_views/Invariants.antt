use Rattle.std.proofs.Common.{◌≡◌, map, take}
use Rattle.sg_views.specs.Search.{open_states, open_view}
use Rattle.sg_views.proofs.states.States.open_views.Given as goal

abbrev pub invariant-loop-at : goal.invariant-loop-at
invariant-loop-at l = l.list.items ≡ map open_view (open_states (take l.at l.self))
