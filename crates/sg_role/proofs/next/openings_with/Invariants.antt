use Rattle.std.proofs.Common.{◌≡◌, map, get_or, None}
use Rattle.std.specs.Option.{option_or}
use Rattle.sg_model.specs.Lists.{below}
use Rattle.sg_protocol.specs.Session.{opening_in}
use Rattle.sg_role.proofs.next.openings_with.Given as goal

abbrev pub invariant-loop-number : goal.invariant-loop-number
invariant-loop-number l = l.list.items ≡ map (λ x. option_or (opening_in l.shown x) (get_or l.openings x None)) (below l.number)
