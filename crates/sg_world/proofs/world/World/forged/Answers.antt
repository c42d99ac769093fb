use Rattle.std.proofs.Common.{◌≡◌, List, [], IfOk, length, option_map, refl, subst, ap, arith}
use Rattle.sg_certify.specs.Forged.{forged_from}
use Rattle.sg_model.proofs.Small.{clash}
use Rattle.sg_protocol.specs.Broken.{first_forged}
use Rattle.sg_protocol.specs.Run.{run}
use Rattle.sg_protocol.specs.Schedule.{Step}
use Rattle.sg_protocol.specs.Texts.{real}
use Rattle.sg_world.specs.Holds.{schedule_of}
use Rattle.sg_setting.specs.Replay.{Replay, run_of}
use Rattle.sg_world.proofs.Pasts.{names}
use Rattle.sg_world.proofs.PremiseLaws.{as_many, forged_below, is_record, none_forged, steps_few}
use Rattle.sg_world.proofs.world.World.forged.Goals as goal

pub returns-clause-found : goal.returns-clause-found
returns-clause-found c =
    let s = schedule_of c.self.inside.setting c.self.inside.nodes.entries c.self.inside.history.done in
    subst (λ (z : Replay). IfOk c.first_forged.result (λ o. option_map (λ f. (f.step, f.note.now)) o ≡ first_forged z.schedule (run_of z))) c.self.view_is
    (c.first_forged.ensures.in_runs s (run real c.self.inside.setting.programs s) refl (is_record c.self.inside.setting c.self.inside.nodes.entries c.self.inside.history.done c.notes.result.now c.self.invariant c.notes.ensures))

pub returns-clause-step : goal.returns-clause-step
returns-clause-step c =
    let many = as_many c.self.inside.setting c.self.inside.nodes.entries c.self.inside.history.done c.self.invariant in
    let few = c.self.invariant.few in
    let noted = ap (λ ns. length ns) c.notes.ensures in
    steps_few (λ f. (f.step, f.note.now)) c.first_forged.result (forged_from (names c.self.inside.nodes.entries) 1 [] c.notes.result.now) (length c.notes.result.now) c.first_forged.ensures.value
    (forged_below (names c.self.inside.nodes.entries) 1 [] c.notes.result.now) (omega (arith, many, few, noted))

pub returns-then-has_no_steps-clause-found : goal.returns-then-has_no_steps-clause-found
returns-then-has_no_steps-clause-found c = none_forged c.args.self.now (c.has_no_steps.ensures.0 c.if-has_no_steps.true)

pub returns-clause-before_steps : goal.returns-clause-before_steps
returns-clause-before_steps c = λ e. clash c.has_no_steps.result (c.has_no_steps.ensures.1 (ap (λ (xs : List Step). length xs) e)) c.if-has_no_steps.false
