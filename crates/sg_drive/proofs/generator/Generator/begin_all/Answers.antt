use Rattle.std.proofs.Common.{◌≡◌, ◌+◌, Err, refl, ap, ◌∙◌, subst, arith, rules}
use Rattle.sg_drive.proofs.Grouped.{begin_stopped, begun_so_far, can_begin, has_begun}
use Rattle.sg_drive.proofs.Extends.{err_is}
use Rattle.sg_drive.specs.Budget.{HasBudget}
use Rattle.sg_drive.specs.Faults.{IsStopped}
use Rattle.sg_drive.specs.Generated.{begin_all}
use Rattle.sg_drive.specs.Machine.{Machine}
use Rattle.sg_drive.specs.declared.fault.GenerateFault.{GenerateFault}
use Rattle.sg_drive.proofs.generator.Generator.begin_all.Goals as goal

pub loop-index-init : goal.loop-index-init
loop-index-init c = (refl, subst (λ k. HasBudget 0 k c.args.self.now) (let z : c.args.first ≡ c.args.first + 0 = omega arith in z) c.requires.budget)

pub begin-requires-clause-room : goal.begin-requires-clause-room
begin-requires-clause-room c =
    (can_begin c.args.self.now c.loop-index.self c.args.first c.loop-index.index c.loop-index.invariant.0 c.loop-index.invariant.1 (let few = c.requires.few.0 in let t = c.loop-index-test.true in omega (arith, few, t))).0

pub begin-requires-clause-there : goal.begin-requires-clause-there
begin-requires-clause-there c =
    (can_begin c.args.self.now c.loop-index.self c.args.first c.loop-index.index c.loop-index.invariant.0 c.loop-index.invariant.1 (let few = c.requires.few.0 in let t = c.loop-index-test.true in omega (arith, few, t))).1

pub loop-index-preserved : goal.loop-index-preserved
loop-index-preserved c =
    has_begun c.args.self.now c.loop-index.self c.begin.new.self c.args.first c.loop-index.index c.loop-index.invariant.0 c.loop-index.invariant.1 (let few = c.requires.few.0 in let t = c.loop-index-test.true in omega (arith, few, t)) c.in_ok-begin.ensures.going

pub returns-in_err-begin-clause-stopped : goal.returns-in_err-begin-clause-stopped
returns-in_err-begin-clause-stopped c =
    let m : Machine = c.args.self.now in
    let e : GenerateFault = c.in_err-begin.field-0.0 in
    let same : c.from_residual.result ≡ Err e = search rules in
    err_is c.from_residual.result e (IsStopped (begin_all m.seed m.graph c.args.first c.args.count m.going).replay) same
    (begin_stopped m c.loop-index.self c.args.first c.loop-index.index c.args.count c.loop-index.invariant.0 c.loop-index-test.true e c.in_err-begin.ensures.stopped)

pub returns-clause-going : goal.returns-clause-going
returns-clause-going c =
    let last = c.loop-index-test.false in
    let end = c.loop-index.auto.index-end in
    c.loop-index.invariant.0 ∙ ap (λ k. begun_so_far c.args.self.now c.args.first k) (omega (arith, last, end))
