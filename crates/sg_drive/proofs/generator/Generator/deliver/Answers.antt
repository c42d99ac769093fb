use Rattle.std.proofs.Common.{◌≡◌, Err, ap, ◌∙◌, subst, rules}
use Rattle.sg_graph.specs.declared.edge.Edge.{Edge}
use Rattle.sg_model.specs.Shape.{receiver, target}
use Rattle.sg_protocol.specs.Graph.{shape}
use Rattle.sg_protocol.specs.Schedule.{Step, DeliverStep, Whole}
use Rattle.sg_drive.proofs.Extends.{err_is, goes_gone_on, stopped_more}
use Rattle.sg_drive.proofs.Taking.{is_honest_player}
use Rattle.sg_drive.specs.Faults.{IsStopped}
use Rattle.sg_drive.specs.Generated.{deliver, player_at}
use Rattle.sg_drive.specs.Going.{Pending, taking}
use Rattle.sg_drive.specs.Machine.{Machine}
use Rattle.sg_drive.specs.declared.fault.GenerateFault.{GenerateFault}
use Rattle.sg_sessions.specs.Setup.{player}
use Rattle.sg_drive.proofs.generator.Generator.deliver.Goals as goal

pub take-requires-clause-honest : goal.take-requires-clause-honest
take-requires-clause-honest c = is_honest_player c.args.self.now c.self.inside c.self.view_is c.self.invariant c.player_at-who.result c.player_at-who.ensures.honest

pub returns-in_err-take-clause-stopped : goal.returns-in_err-take-clause-stopped
returns-in_err-take-clause-stopped c =
    let m : Machine = c.args.self.now in
    let p = c.args.frame.now in
    let who : c.player_at-who.result ≡ player (receiver (shape m.graph) p.label) =
    c.player_at-who.ensures.player
    ∙ ap (λ (e : Edge). player_at c.self.inside.graph.now e.target) c.edge.ensures.edge
    ∙ ap (λ (z : Pending). player_at c.self.inside.graph.now (target (shape c.self.inside.graph.now) z.label)) c.frame.view_is
    ∙ ap (λ (z : Machine). player_at z.graph (target (shape z.graph) p.label)) c.self.view_is in
    let st : Step = DeliverStep (player (receiver (shape m.graph) p.label)) (Whole p.frame) in
    let step : DeliverStep c.player_at-who.result (Whole c.frame.inside.frame) ≡ st = λ i. DeliverStep (who i) (Whole (c.frame.view_is i).frame) in
    let e : GenerateFault = c.in_err-take.field-0.0 in
    let same : c.from_residual.result ≡ Err e = search rules in
    err_is c.from_residual.result e (IsStopped (deliver m.seed m.graph p m.going).replay) same
    (stopped_more (taking st m.going).replay (deliver m.seed m.graph p m.going).replay e (goes_gone_on m.seed m.graph p (taking st m.going))
    (subst (λ (s : Step). IsStopped (taking s m.going).replay e) step c.in_err-take.ensures.stopped))
