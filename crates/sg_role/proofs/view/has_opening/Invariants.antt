use Rattle.std.proofs.Common.{◌≡◌, drop, map}
use Rattle.sg_model.specs.Lists.{is_in}
use Rattle.sg_role.proofs.view.has_opening.Given as goal

abbrev pub invariant-loop-at : goal.invariant-loop-at
invariant-loop-at l = is_in l.var (map (λ o. o.variable) l.openings) ≡ is_in l.var (map (λ o. o.variable) (drop l.at l.openings))
