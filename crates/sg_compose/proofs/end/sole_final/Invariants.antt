use Rattle.std.proofs.Common.{◌≤◌}
use Rattle.sg_compose.specs.Expansion.{is_final}
use Rattle.sg_compose.proofs.Ends.{Counted}
use Rattle.sg_compose.proofs.end.sole_final.Given as goal

abbrev pub invariant-loop-number : goal.invariant-loop-number
invariant-loop-number l = record {
  few : l.count ≤ l.number;
  counted : Counted (is_final l.inner) l.number l.count l.last;
}
