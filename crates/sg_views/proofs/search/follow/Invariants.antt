use Rattle.std.proofs.Common.{◌≤◌, ℕ, ◌<◌, length, get_or}
use Rattle.sg_views.specs.Search.{Extends, LeadsInto, Searched, open_states}
use Rattle.sg_views.specs.declared.states.State.{State}
use Rattle.sg_views.proofs.search.follow.Given as goal

abbrev pub invariant-loop-label : goal.invariant-loop-label
invariant-loop-label l = record {
  searched : Searched l.graph l.role l.states;
  few : length (open_states l.states) ≤ 65536;
  extends : Extends l.fn.states l.states;
  followed : (k : ℕ) (d : State) → k < l.label-index → LeadsInto l.graph l.role l.states (get_or l.fn.states l.at d) (get_or l.label-items k 0);
}
