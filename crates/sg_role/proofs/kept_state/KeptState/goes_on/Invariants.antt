use Rattle.std.proofs.Common.{◌≡◌, ◌==◌, take, false}
use Rattle.std.specs.List.{list_any}
use Rattle.sg_role.proofs.kept_state.KeptState.goes_on.Given as goal

abbrev pub invariant-loop-number : goal.invariant-loop-number
invariant-loop-number l = list_any (λ e. e.source == l.self.place) (take l.number l.graph.edges) ≡ false
