use Rattle.std.proofs.Common.{◌+◌, List, ℕ, length, refl, ap, subst, arith}
use Rattle.sg_protocol.specs.Run.{run}
use Rattle.sg_protocol.specs.Texts.{real}
use Rattle.sg_sched.specs.Format.StepsHeld.{step_of}
use Rattle.sg_world.specs.Holds.{schedule_of}
use Rattle.sg_world.specs.RecordModel.{IsHonestIn, Recorded}
use Rattle.sg_world.proofs.Gathered.{craftable}
use Rattle.sg_world.proofs.Next.{frames_few}
use Rattle.sg_world.proofs.StepLaws.{names_declared, names_kept, step_fits, step_taken}
use Rattle.sg_world.proofs.take.take_step.Goals as goal

pub perform-requires-clause-named : goal.perform-requires-clause-named
perform-requires-clause-named c = names_declared (schedule_of c.args.setting.now c.args.nodes.now.entries c.args.history.now.done) (step_of c.args.step.now) c.requires.step

pub perform-requires-clause-can : goal.perform-requires-clause-can
perform-requires-clause-can c = craftable c.args.setting.now c.args.nodes.now.entries c.args.history.now.done (step_of c.args.step.now) c.requires.step.range

pub perform-requires-clause-room : goal.perform-requires-clause-room
perform-requires-clause-room c =
    let a = ap (λ (z : Recorded). length z.entries) c.make_room.ensures.done in
    let g = c.requires.room in
    omega (arith, a, g)

pub perform-requires-clause-few : goal.perform-requires-clause-few
perform-requires-clause-few c =
    let s = schedule_of c.args.setting.now c.args.nodes.now.entries c.args.history.now.done in
    let b = ap (λ (z : Recorded). length z.frames) c.make_room.ensures.done in
    let f = frames_few c.args.setting.now.programs s (run real c.args.setting.now.programs s) c.args.nodes.now.entries c.args.history.now.done c.requires.holds.run in
    let g = c.requires.room in
    omega (arith, b, f, g)

pub put-requires-clause-size : goal.put-requires-clause-size
put-requires-clause-size c =
    let number = length c.make_room.new.self.done.entries + 1 in
    let is_result = c.in-Ok.ensures.is_result in
    let known = subst (λ (ns : List (List ℕ)). IsHonestIn c.args.setting.now.sessions ns (step_of c.args.step.now) c.perform.new.step_result.cast c.honest_in-honest.result)
    (names_kept c.args.setting.now c.make_room.new.self.done.frames number (step_of c.args.step.now) c.args.index c.args.nodes.now.entries c.perform.new.nodes.entries c.perform.new.step_result is_result) c.honest_in-honest.ensures in
    step_fits c.args.setting.now c.args.nodes.now.entries c.perform.new.nodes.entries c.args.history.now.done c.make_room.new.self.done (step_of c.args.step.now) c.honest_in-honest.result c.perform.new.step_result c.args.index number known
    c.requires.holds c.requires.index c.requires.room c.requires.step.range c.make_room.ensures.done refl is_result c.requires.size

pub returns-in-Ok : goal.returns-in-Ok
returns-in-Ok c =
    let number = length c.make_room.new.self.done.entries + 1 in
    let is_result = c.in-Ok.ensures.is_result in
    let known = subst (λ (ns : List (List ℕ)). IsHonestIn c.args.setting.now.sessions ns (step_of c.args.step.now) c.perform.new.step_result.cast c.honest_in-honest.result)
    (names_kept c.args.setting.now c.make_room.new.self.done.frames number (step_of c.args.step.now) c.args.index c.args.nodes.now.entries c.perform.new.nodes.entries c.perform.new.step_result is_result) c.honest_in-honest.ensures in
    let goes = step_taken c.args.setting.now c.args.nodes.now.entries c.perform.new.nodes.entries c.args.history.now.done c.make_room.new.self.done c.put.new.self.done (step_of c.args.step.now) (step_of c.in_ok-kept.kept) c.honest_in-honest.result c.perform.new.step_result c.args.index number known
    c.requires.holds c.requires.index c.requires.room c.requires.step c.make_room.ensures.done refl is_result c.in_ok-kept.ensures c.put.ensures in
    record { taken = goes.0; schedule = goes.1; back = tt }
