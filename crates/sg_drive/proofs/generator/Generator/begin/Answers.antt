use Rattle.std.proofs.Common.{◌≡◌, ◌<◌, ℕ, List, Err, length, sym, ap, ◌∙◌, subst, rules}
use Rattle.sg_protocol.specs.Schedule.{Step, StartStep}
use Rattle.sg_drive.proofs.Extends.{err_is, goes_play, stopped_more}
use Rattle.sg_drive.proofs.Taking.{is_honest_player, is_there}
use Rattle.sg_drive.specs.Faults.{IsStopped}
use Rattle.sg_drive.specs.Generated.{begin, player_at}
use Rattle.sg_drive.specs.Going.{taking}
use Rattle.sg_drive.specs.Machine.{Machine}
use Rattle.sg_drive.specs.declared.fault.GenerateFault.{GenerateFault}
use Rattle.sg_drive.proofs.generator.Generator.begin.Goals as goal

pub player_at-who-requires : goal.player_at-who-requires
player_at-who-requires c = subst (λ (m : Machine). 0 < length m.graph.nodes) (sym c.self.view_is) c.requires.room.start

pub take-requires-clause-step : goal.take-requires-clause-step
take-requires-clause-step c = record { declared = is_there c.args.self.now c.self.inside c.self.view_is c.self.invariant c.args.session c.requires.there; range = tt }

pub take-requires-clause-honest : goal.take-requires-clause-honest
take-requires-clause-honest c = is_honest_player c.args.self.now c.self.inside c.self.view_is c.self.invariant c.player_at-who.result c.player_at-who.ensures.honest

pub play-requires-clause-there : goal.play-requires-clause-there
play-requires-clause-there c = (
  subst (λ (m : Machine). c.args.session < m.sessions) (sym c.in_ok-take.ensures.going) c.requires.there,
  subst (λ (m : Machine). 0 < length m.graph.nodes) (sym c.in_ok-take.ensures.going) c.requires.room.start,
)

pub returns-in_err-take-clause-stopped : goal.returns-in_err-take-clause-stopped
returns-in_err-take-clause-stopped c =
    let m : Machine = c.args.self.now in
    let who : c.player_at-who.result ≡ player_at m.graph 0 = c.player_at-who.ensures.player ∙ ap (λ (z : Machine). player_at z.graph 0) c.self.view_is in
    let st : Step = StartStep (player_at m.graph 0) c.args.session in
    let e : GenerateFault = c.in_err-take.field-0.0 in
    let same : c.from_residual.result ≡ Err e = search rules in
    err_is c.from_residual.result e (IsStopped (begin m.seed m.graph c.args.session m.going).replay) same
    (stopped_more (taking st m.going).replay (begin m.seed m.graph c.args.session m.going).replay e (goes_play m.seed m.graph c.args.session 0 (taking st m.going))
    (subst (λ (w : List ℕ). IsStopped (taking (StartStep w c.args.session) m.going).replay e) who c.in_err-take.ensures.stopped))
