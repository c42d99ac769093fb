use Rattle.std.proofs.Common.{arith}
use Rattle.std.proofs.lemmas.Result.{err_from_is_err_and}
use Rattle.sg_protocol.specs.Graph.{shape}
use Rattle.sg_check.proofs.Blinded.{fault_of_pair, blind_there}
use Rattle.sg_check.proofs.blinding.check_pairs.Goals as goal

pub returns-in_err-check_roles-clause-refused : goal.returns-in_err-check_roles-clause-refused
returns-in_err-check_roles-clause-refused c =
    let p = err_from_is_err_and c.from_residual.result c.from_residual.ensures.1 in
    rw (p.1, p.2) (fault_of_pair (shape c.args.graph.now) c.args.node c.args.a c.loop-number.number c.in_err-check_roles.field-0.0 c.loop-number.invariant c.in_err-check_roles.ensures.refused)

pub returns-clause-ok : goal.returns-clause-ok
returns-clause-ok c = λ p at blind.
    let there = blind_there c.args.graph.now c.roles-roles.ensures.graph p.node p.a p.b blind.1 in
    c.loop-number.invariant p at.0 at.1 (omega (arith, there.2, c.roles-roles.ensures.count)) blind
