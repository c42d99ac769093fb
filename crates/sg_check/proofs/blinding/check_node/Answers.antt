use Rattle.std.proofs.Common.{arith}
use Rattle.std.proofs.lemmas.Result.{err_from_is_err_and}
use Rattle.sg_protocol.specs.Graph.{shape}
use Rattle.sg_check.proofs.Blinded.{fault_of_node, blind_there}
use Rattle.sg_check.proofs.blinding.check_node.Goals as goal

pub returns-in_err-check_pairs-clause-refused : goal.returns-in_err-check_pairs-clause-refused
returns-in_err-check_pairs-clause-refused c =
    let p = err_from_is_err_and c.from_residual.result c.from_residual.ensures.1 in
    rw (p.1, p.2) (fault_of_node (shape c.args.graph.now) c.args.node c.loop-number.number c.in_err-check_pairs.field-0.0 c.loop-number.invariant c.in_err-check_pairs.ensures.refused)

pub returns-clause-ok : goal.returns-clause-ok
returns-clause-ok c = λ p at blind.
    let there = blind_there c.args.graph.now c.roles-number-end.ensures.graph p.node p.a p.b blind.1 in
    c.loop-number.invariant p at (omega (arith, there.1, c.roles-number-end.ensures.count)) blind
