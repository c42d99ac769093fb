use Rattle.std.proofs.Common.{◌≡◌, ◌∙◌, sym, ap, arith}
use Rattle.sg_base.specs.Sets.{with_member}
use Rattle.sg_graph.specs.declared.edge.Edge.{Edge}
use Rattle.sg_reach.proofs.Pair.{pair}
use Rattle.sg_plan.proofs.Aimed.{differ, target_listed}
use Rattle.sg_plan.proofs.plan.is_target.Goals as goal

pub with-requires : goal.with-requires
with-requires c = omega (arith, c.requires.role, c.roles-roles.ensures.graph.sizes.0)

pub with-past-requires : goal.with-past-requires
with-past-requires c = omega (arith, c.sender-sender.ensures.there, c.roles-roles.ensures.graph.sizes.0)

pub returns : goal.returns
returns c =
    let g = c.args.graph.now in
    let s = c.sender-sender.result in
    let set : c.with-past.result ≡ pair c.args.role s = c.with-past.ensures ∙ ap (λ xs. with_member 16 xs s) (c.with.ensures ∙ ap (λ xs. with_member 16 xs c.args.role) c.empty.ensures) in
    target_listed g c.args.label c.args.role s c.edge.result.now.target c.with-past.result c.new.result c.first_of.result c.is_some.result c.sender-sender.ensures.role
    (ap (λ (e : Edge). e.target) c.edge.ensures.edge) set c.new.ensures (omega (arith, c.requires.role, c.roles-roles.ensures.graph.sizes.0))
    (omega (arith, c.sender-sender.ensures.there, c.roles-roles.ensures.graph.sizes.0))
    (differ c.args.role s c.eq.result c.eq.ensures c.if-eq.false)
    (λ q. differ c.args.role c.receiver.result c.eq-else-eq.result c.eq-else-eq.ensures c.if-eq-2.false (q ∙ sym c.receiver.ensures.role))
    c.first_of.ensures c.is_some.ensures
