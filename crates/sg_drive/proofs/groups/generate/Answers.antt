use Rattle.std.proofs.Common.{◌≡◌, refl, arith}
use Rattle.std.specs.Prelude.{Result, Ok, Err, OnOk}
use Rattle.sg_drive.proofs.WholeRun.{grouped_budget, grouped_done, grouped_first, grouped_next, grouped_some, grouped_stops}
use Rattle.sg_drive.specs.GeneratorModel.{drive_of}
use Rattle.sg_drive.proofs.groups.generate.Goals as goal

-- what holds if the answer is right holds of one that isn't a fault
ok_of : {V E P : Type 0} (r : Result V E) → ((e : E) → r ≡ Err e → ⊥) → OnOk r P → P
ok_of (Ok v) right h = h
ok_of (Err e) right h = absurd (right e refl)

pub loop-group-init : goal.loop-group-init
loop-group-init c = grouped_first c.args.seed c.args.sessions c.args.graph.now c.args.programs.now _ c.in-Ok.ensures c.requires.compiled c.requires.two c.requires.sessions.1

pub group_at-requires-clause-budget : goal.group_at-requires-clause-budget
group_at-requires-clause-budget c =
    grouped_budget c.args.seed c.args.sessions c.args.graph.now c.args.programs.now c.loop-group.group c.loop-group.generator c.loop-group.invariant
    (let few = c.groups_for-groups.ensures.few in let t = c.loop-group-test.true in omega (arith, few, t))

pub group_at-requires-clause-some : goal.group_at-requires-clause-some
group_at-requires-clause-some c =
    grouped_some c.args.seed c.args.sessions c.args.graph.now c.args.programs.now c.loop-group.group c.loop-group.generator c.loop-group.invariant
    (let few = c.groups_for-groups.ensures.few in let t = c.loop-group-test.true in omega (arith, few, t))

pub loop-group-preserved : goal.loop-group-preserved
loop-group-preserved c =
    grouped_next c.args.seed c.args.sessions c.args.graph.now c.args.programs.now c.loop-group.group c.loop-group.generator c.loop-group.invariant
    (let few = c.groups_for-groups.ensures.few in let t = c.loop-group-test.true in omega (arith, few, t)) c.group_at.new.self (ok_of c.group_at.result c.in_default.not-Err c.group_at.ensures.group)

pub returns-in-Err-group_at-clause-refused : goal.returns-in-Err-group_at-clause-refused
returns-in-Err-group_at-clause-refused c =
    grouped_stops c.args.seed c.args.sessions c.args.graph.now c.args.programs.now c.loop-group.group c.loop-group.generator c.loop-group.invariant
    (let few = c.groups_for-groups.ensures.few in let t = c.loop-group-test.true in omega (arith, few, t)) c.groups_for-groups.result c.in-Err-group_at.fault c.loop-group-test.true c.groups_for-groups.ensures.all c.groups_for-groups.ensures.few
    c.in-Err-group_at.ensures.stopped

pub returns-clause-generated : goal.returns-clause-generated
returns-clause-generated c =
    grouped_done c.args.seed c.args.sessions c.args.graph.now c.args.programs.now c.loop-group.group c.loop-group.generator c.loop-group.invariant
    (let all = c.groups_for-groups.ensures.all in let last = c.loop-group-test.false in omega (arith, all, last)) (drive_of c.done.result) c.done.ensures.drive c.done.ensures.room
