use Rattle.std.proofs.Common.{◌≡◌, ◌++◌, None, drop, filter_map, get_or}
use Rattle.std.specs.Option.{option_or}
use Rattle.sg_protocol.specs.Session.{opening_in}
use Rattle.sg_role.proofs.evidence.openings_of.Given as goal

abbrev pub invariant-loop-at : goal.invariant-loop-at
invariant-loop-at l = l.list ++ filter_map (λ x. option_or (opening_in l.written x) (get_or l.openings x None)) (drop l.at l.vars) ≡ filter_map (λ x. option_or (opening_in l.written x) (get_or l.openings x None)) l.vars
