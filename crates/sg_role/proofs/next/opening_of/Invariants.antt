use Rattle.std.proofs.Common.{◌≡◌, drop}
use Rattle.sg_protocol.specs.Session.{opening_in}
use Rattle.sg_role.proofs.next.opening_of.Given as goal

abbrev pub invariant-loop-at : goal.invariant-loop-at
invariant-loop-at l = opening_in (drop l.at l.shown) l.var ≡ opening_in l.shown l.var
