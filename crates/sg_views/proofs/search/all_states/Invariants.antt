use Rattle.std.proofs.Common.{◌≤◌, ◌-◌, ◌^◌, length}
use Rattle.sg_views.specs.Search.{FollowedBelow, Searched, open_states}
use Rattle.sg_views.proofs.search.all_states.Given as goal

abbrev pub invariant-loop-at : goal.invariant-loop-at
invariant-loop-at l = record {
  searched : Searched l.graph l.role l.states;
  followed : FollowedBelow l.graph l.role l.states l.at;
  few : length (open_states l.states) ≤ 65536;
}

abbrev pub decreases-loop-at : goal.decreases-loop-at
decreases-loop-at l = 2 ^ 63 - l.at
