use Rattle.std.proofs.Common.{◌≡◌, ◌==◌, ◌&&◌, not, drop}
use Rattle.std.specs.List.{list_any}
use Rattle.sg_protocol.specs.Acting.{is_typed}
use Rattle.sg_walk.specs.Model.{values_of}
use Rattle.sg_role.proofs.values.has_other_type.Given as goal

abbrev pub invariant-loop-at : goal.invariant-loop-at
invariant-loop-at l = list_any (λ w. (w.0 == l.var) && not (is_typed l.graph w)) (values_of (drop l.at l.values)) ≡ list_any (λ w. (w.0 == l.var) && not (is_typed l.graph w)) (values_of l.values)
