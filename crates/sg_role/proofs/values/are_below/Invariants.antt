use Rattle.std.proofs.Common.{◌≡◌, nat_lt, drop}
use Rattle.std.specs.List.{list_all}
use Rattle.sg_walk.specs.Model.{values_of}
use Rattle.sg_role.proofs.values.are_below.Given as goal

abbrev pub invariant-loop-at : goal.invariant-loop-at
invariant-loop-at l = list_all (λ w. nat_lt w.0 l.count) (values_of l.values) ≡ list_all (λ w. nat_lt w.0 l.count) (values_of (drop l.at l.values))
