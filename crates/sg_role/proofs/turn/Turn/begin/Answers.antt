use Rattle.std.proofs.Common.{◌≡◌, None, ap, ◌∙◌, subst}
use Rattle.sg_model.specs.Shape.{role_at}
use Rattle.sg_protocol.proofs.Reachable.{states_are_reachable}
use Rattle.sg_protocol.proofs.RealHash.{real_hash}
use Rattle.sg_protocol.specs.Graph.{shape}
use Rattle.sg_protocol.specs.Texts.{real}
use Rattle.sg_role.specs.Model.{RoleState, state_of}
use Rattle.sg_role.proofs.turn.Turn.begin.Goals as goal

pub invariant_of-result : goal.invariant_of-result
invariant_of-result c =
    let s = state_of c.before-2.inside.kept.value in
    let new : s.held.kept.origin ≡ None = ap (λ (z : RoleState). z.held.kept.origin) c.before-2.view_is ∙ (c.fits.ensures.0 c.if-not-fits.false).1 in
    let starts : role_at (shape s.program.graph) 0 ≡ s.held.role = subst (λ (z : RoleState). role_at (shape z.program.graph) 0 ≡ z.held.role) (ap state_of c.deref.ensures) (c.starts.ensures.0 c.if-not-starts.false) in
    record { counted = c.before-2.invariant.counted; reachable = (states_are_reachable real real_hash).begins s.program s.held c.before-2.invariant.reachable new starts }
