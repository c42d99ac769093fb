-- Where the reader begins, and where it ends.
use Rattle.std.proofs.Common.{◌≡◌, ◌∙◌, ap, sym, refl, arith, Err, length}
use Rattle.std.proofs.lemmas.Bool.{eqb-true}
use Rattle.sg_protocol.specs.Texts.{real}
use Rattle.sg_sched.proofs.FormatOne.{one_schedule}
use Rattle.sg_sched.specs.Text.{lines}
use Rattle.sg_sched.specs.Format.Items.{SoFar}
use Rattle.sg_sched.specs.declared.fault.LineFault.TheVariants.{OutOfMemory as NoMemory}
use Rattle.sg_sched_text.specs.Early.{begins_late}
use Rattle.sg_sched_text.proofs.EarlyLaws.{one_fault, late-end}
use Rattle.sg_sched_text.proofs.ReadSoFarLaws.{begins}
use Rattle.sg_sched_text.proofs.Meant.{spelled_is_meant}
use Rattle.sg_sched_text.proofs.EndLaws.{casts_kept, spelled, no_fault}
use Rattle.sg_sched_text.proofs.read.read_schedule.Goals as goal

pub lines-init : goal.lines-init
lines-init c = let n = c.new-reader.ensures.number in record {
  has_read = begins c.args.bytes.now c.new-reader.result c.new-reader.ensures.past c.new-reader.ensures.number;
  early = λ h. ap (λ (p : SoFar). begins_late p (lines c.args.bytes.now)) c.new-reader.ensures.past ∙ h;
  few = omega (arith, n);
}

pub returns-in-Err-clause-only : goal.returns-in-Err-clause-only
returns-in-Err-clause-only c = λ s spells. no_fault c.args.bytes.now c.in-Err.fault (c.in-Err.ensures.has_read c.args.bytes.now c.lines.invariant.has_read) s spells

pub returns-in-Err-clause-wrong : goal.returns-in-Err-clause-wrong
returns-in-Err-clause-wrong c = c.in-Err.ensures.has_read c.args.bytes.now c.lines.invariant.has_read

pub returns-in-Err-clause-early : goal.returns-in-Err-clause-early
returns-in-Err-clause-early c = λ h e. c.in-Err.ensures.early (c.lines.invariant.early h) (ap Err (one_fault c.in-Err.fault NoMemory (Err c.in-Err.fault) refl e))

pub schedule-requires : goal.schedule-requires
schedule-requires c = casts_kept c.args.bytes.now c.lines.reader c.lines.rest.now c.lines.invariant.has_read

pub returns-in-Ok-schedule-clause-found : goal.returns-in-Ok-schedule-clause-found
returns-in-Ok-schedule-clause-found c =
    let none : length c.lines.rest.now ≡ 0 = eqb-true (length c.lines.rest.now) 0 (sym c.lines-test.ensures) in
    spelled c.args.bytes.now c.lines.reader c.lines.rest.now c.lines.invariant.has_read (omega (arith, none)) c.in-Ok-schedule.schedule c.in-Ok-schedule.ensures

pub returns-in-Ok-schedule-clause-only : goal.returns-in-Ok-schedule-clause-only
returns-in-Ok-schedule-clause-only c = λ s spells. one_schedule real c.args.bytes.now c.in-Ok-schedule.schedule s (returns-in-Ok-schedule-clause-found c) spells

pub returns-in-Ok-schedule-clause-meant : goal.returns-in-Ok-schedule-clause-meant
returns-in-Ok-schedule-clause-meant c = spelled_is_meant c.args.bytes.now c.in-Ok-schedule.schedule (returns-in-Ok-schedule-clause-found c)

pub returns-in-Err-schedule-clause-early : goal.returns-in-Err-schedule-clause-early
returns-in-Err-schedule-clause-early c = λ h.
    let none : length c.lines.rest.now ≡ 0 = eqb-true (length c.lines.rest.now) 0 (sym c.lines-test.ensures) in
    absurd (late-end c.lines.reader.past c.lines.rest.now none (c.lines.invariant.early h))
