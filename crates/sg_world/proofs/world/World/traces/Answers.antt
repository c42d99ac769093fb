use Rattle.std.proofs.Common.{arith, subst}
use Rattle.sg_certify.specs.Runs.{AreTraces}
use Rattle.sg_world.proofs.Passing.{all_taken, of_run}
use Rattle.sg_world.proofs.ShownSteps.{fits_entry, next_traces}
use Rattle.sg_world.proofs.world.World.traces.Goals as goal

pub loop-entry-init : goal.loop-entry-init
loop-entry-init c = c.new-traces.ensures c.args.self.now.programs c.args.self.now.schedule

pub add_entry-requires : goal.add_entry-requires
add_entry-requires c =
    let h = of_run c.self.inside c.self.invariant c.args.self.now c.self.view_is c.entries-entries.result.now c.entries-entries.ensures c.requires in
    fits_entry c.args.self.now c.entries-entries.result.now h c.loop-entry.entry-index c.entry-item.result c.loop-entry-test.true c.entry-item.is c.loop-entry.traces c.loop-entry.invariant

pub loop-entry-preserved : goal.loop-entry-preserved
loop-entry-preserved c =
    let h = of_run c.self.inside c.self.invariant c.args.self.now c.self.view_is c.entries-entries.result.now c.entries-entries.ensures c.requires in
    next_traces c.args.self.now c.entries-entries.result.now h c.loop-entry.entry-index c.entry-item.result c.loop-entry-test.true c.entry-item.is c.loop-entry.traces c.loop-entry.invariant c.add_entry.new.traces c.in_ok-add_entry.ensures

pub returns-clause-unbroken : goal.returns-clause-unbroken
returns-clause-unbroken c = (of_run c.self.inside c.self.invariant c.args.self.now c.self.view_is c.entries-entries.result.now c.entries-entries.ensures c.requires).unbroken

pub returns-clause-traces : goal.returns-clause-traces
returns-clause-traces c =
    let h = of_run c.self.inside c.self.invariant c.args.self.now c.self.view_is c.entries-entries.result.now c.entries-entries.ensures c.requires in
    let more = c.loop-entry-test.false in
    let most = c.loop-entry.auto.entry-index-end in
    subst (λ ls. AreTraces c.args.self.now.programs c.args.self.now.schedule ls c.loop-entry.traces) (all_taken c.args.self.now c.entries-entries.result.now h c.loop-entry.entry-index (omega (arith, more, most))) c.loop-entry.invariant
