use Rattle.std.proofs.Common.{refl, arith}
use Rattle.std.proofs.lemmas.Result.{err_from_is_err_and}
use Rattle.sg_protocol.specs.Graph.{shape}
use Rattle.sg_check.specs.Blind.{AtNode}
use Rattle.sg_check.proofs.Blinded.{fault_of_graph, fault_blind, clear_sighted, blind_there}
use Rattle.sg_check.proofs.blinding.check_blinding.Goals as goal

pub returns-in_err-check_node-clause-ok : goal.returns-in_err-check_node-clause-ok
returns-in_err-check_node-clause-ok c =
    let p = err_from_is_err_and c.from_residual.result c.from_residual.ensures.1 in
    let shown = fault_blind (shape c.args.graph.now) (AtNode c.loop-number.number) c.in_err-check_node.field-0.0 c.in_err-check_node.ensures.refused in
    rw (p.1) ((λ h. absurd (cc)), (λ sighted. absurd (sighted shown.0.node shown.0.a shown.0.b shown.2.1)))

pub returns-in_err-check_node-clause-refused : goal.returns-in_err-check_node-clause-refused
returns-in_err-check_node-clause-refused c =
    let p = err_from_is_err_and c.from_residual.result c.from_residual.ensures.1 in
    rw (p.1, p.2) (fault_of_graph (shape c.args.graph.now) c.loop-number.number c.in_err-check_node.field-0.0 c.loop-number.invariant c.in_err-check_node.ensures.refused)

pub returns-clause-ok : goal.returns-clause-ok
returns-clause-ok c =
    let g = c.args.graph.now in (
      (λ _. clear_sighted (shape g) (λ p at blind.
          let there = blind_there g c.nodes-number-end.ensures.graph p.node p.a p.b blind.1 in
          c.loop-number.invariant p (omega (arith, there.0)) blind)),
      (λ _. refl),
    )
