-- A line or a block, and what follows it.
use Rattle.std.proofs.Common.{◌≡◌, ap, sym, subst, refl, rules, arith, Err, Some, true, false}
use Rattle.sg_sched.specs.Text.{content, lines, words}
use Rattle.sg_sched.specs.Format.Form.{form}
use Rattle.sg_sched.specs.Format.Forms.{SaysLine, is_skipped}
use Rattle.sg_sched.specs.Format.Model.{statement}
use Rattle.sg_sched.specs.Format.LineContents.{BlockLine}
use Rattle.sg_sched.specs.declared.fault.LineFault.TheVariants.{OutOfMemory as NoMemory}
use Rattle.sg_sched_text.specs.declared.reader.ScheduleReader.{ScheduleReader}
use Rattle.sg_sched_text.specs.Early.{begins_late, is_kept}
use Rattle.sg_sched_text.specs.ReadSoFar.{HasRead}
use Rattle.sg_sched_text.proofs.BlockLine.{only_block}
use Rattle.sg_sched_text.proofs.EarlyLaws.{one_fault, not_kept, block_late, read_early, still_early}
use Rattle.sg_sched_text.proofs.ReadSoFarLaws.{skips, says, opens, no_form, not_taken, skipped_is}
use Rattle.sg_sched_text.proofs.reader.ScheduleReader.next.Goals as goal

pub returns-then-is_skipped-clause-has_read : goal.returns-then-is_skipped-clause-has_read
returns-then-is_skipped-clause-has_read c = λ bytes s.
    let line = c.split_line.result.0.now in
    let at = subst (λ (r : ScheduleReader). HasRead bytes r c.args.rest.now) (sym c.self.view_is) s in
    let skip : is_skipped line ≡ true = skipped_is line c.line_content.result.now true c.line_content.ensures c.if-is_skipped.ensures in
    skips bytes c.args.rest.now c.split_line.result.1.now line _ at c.split_line.ensures.split _ skip refl refl refl

pub returns-in_err-say-in-Block-clause-has_read : goal.returns-in_err-say-in-Block-clause-has_read
returns-in_err-say-in-Block-clause-has_read c = λ bytes s.
    let line = c.split_line.result.0.now in
    let at = subst (λ (r : ScheduleReader). HasRead bytes r c.args.rest.now) (sym c.self.view_is) s in
    let is : SaysLine line BlockLine = rw c.in-Block.is at (rw c.in-Ok-Some.field-0-is at c.in-Ok-Some.ensures.says) in
    let same : c.from_residual.result ≡ Err c.in_err-say-in-Block.field-0.0 = search rules in
    rw same (not_taken bytes c.args.rest.now c.split_line.result.1.now line _ at c.split_line.ensures.split BlockLine c.in_err-say-in-Block.field-0.0 is c.in_err-say-in-Block.ensures.says.wrong)

pub returns-in_err-say-in-Block-clause-early : goal.returns-in_err-say-in-Block-clause-early
returns-in_err-say-in-Block-clause-early c = λ h.
    block_late c.args.self.now.past (lines c.args.rest.now) c.split_line.result.0.now (lines c.split_line.result.1.now) c.split_line.ensures.split h
    (skipped_is c.split_line.result.0.now c.line_content.result.now false c.line_content.ensures c.if-is_skipped.ensures) (rw c.in-Block.is at (rw c.in-Ok-Some.field-0-is at c.in-Ok-Some.ensures.form))

pub returns-in_ok-say-in-Block-clause-has_read : goal.returns-in_ok-say-in-Block-clause-has_read
returns-in_ok-say-in-Block-clause-has_read c = λ bytes s.
    let line = c.split_line.result.0.now in
    let at = subst (λ (r : ScheduleReader). HasRead bytes r c.args.rest.now) (sym c.self.view_is) s in
    let is : SaysLine line BlockLine = rw c.in-Block.is at (rw c.in-Ok-Some.field-0-is at c.in-Ok-Some.ensures.says) in
    let e = c.in_ok-say-in-Block.ensures.says in
    c.block.ensures.has_read bytes (opens bytes c.args.rest.now c.split_line.result.1.now line _ at c.split_line.ensures.split c.say.new.self is e.taken e.number e.edge)

pub returns-in_ok-say-in-Block-clause-early : goal.returns-in_ok-say-in-Block-clause-early
returns-in_ok-say-in-Block-clause-early c = λ h.
    block_late c.args.self.now.past (lines c.args.rest.now) c.split_line.result.0.now (lines c.split_line.result.1.now) c.split_line.ensures.split h
    (skipped_is c.split_line.result.0.now c.line_content.result.now false c.line_content.ensures c.if-is_skipped.ensures) (rw c.in-Block.is at (rw c.in-Ok-Some.field-0-is at c.in-Ok-Some.ensures.form))

pub returns-in_ok-say-in-Block-clause-so_far : goal.returns-in_ok-say-in-Block-clause-so_far
returns-in_ok-say-in-Block-clause-so_far c = λ h.
    block_late c.args.self.now.past (lines c.args.rest.now) c.split_line.result.0.now (lines c.split_line.result.1.now) c.split_line.ensures.split h
    (skipped_is c.split_line.result.0.now c.line_content.result.now false c.line_content.ensures c.if-is_skipped.ensures) (rw c.in-Block.is at (rw c.in-Ok-Some.field-0-is at c.in-Ok-Some.ensures.form))

pub returns-in_err-say-in_default : goal.returns-in_err-say-in_default
returns-in_err-say-in_default c =
    let line = c.split_line.result.0.now in
    let is : SaysLine line (statement c.in-Ok-Some.statement) = rw c.in-Ok-Some.field-0-is at c.in-Ok-Some.ensures.says in
    let same : c.from_residual-in_err-say-in_default.result ≡ Err c.in_err-say-in_default.field-0.0 = search rules in
    record {
      has_read = λ bytes s.
          let at = subst (λ (r : ScheduleReader). HasRead bytes r c.args.rest.now) (sym c.self.view_is) s in
          rw same (not_taken bytes c.args.rest.now c.split_line.result.1.now line _ at c.split_line.ensures.split (statement c.in-Ok-Some.statement) c.in_err-say-in_default.field-0.0 is c.in_err-say-in_default.ensures.says.wrong);
      shorter = rw same tt;
      early = λ h.
          let said : Some (statement c.in-Ok-Some.statement) ≡ form (words (content line)) = rw c.in-Ok-Some.field-0-is at c.in-Ok-Some.ensures.form in
          let skip : is_skipped line ≡ false = skipped_is line c.line_content.result.now false c.line_content.ensures c.if-is_skipped.ensures in
          let kept = not_kept c.args.self.now.past (lines c.args.rest.now) line (lines c.split_line.result.1.now) c.split_line.ensures.split h skip (statement c.in-Ok-Some.statement) said in
          let kept' = subst (λ (r : ScheduleReader). is_kept r.past (statement c.in-Ok-Some.statement) ≡ false) (sym c.self.view_is) kept in
          λ e. c.in_err-say-in_default.ensures.early kept' (one_fault c.in_err-say-in_default.field-0.0 NoMemory c.from_residual-in_err-say-in_default.result same e);
      so_far = λ h. rw same tt;
    }

pub returns-in_ok-say-in_default : goal.returns-in_ok-say-in_default
returns-in_ok-say-in_default c =
    let line = c.split_line.result.0.now in
    let is : SaysLine line (statement c.in-Ok-Some.statement) = rw c.in-Ok-Some.field-0-is at c.in-Ok-Some.ensures.says in
    let e = c.in_ok-say-in_default.ensures.says in
    let n = ap (λ (r : ScheduleReader). r.number) c.self.view_is in
    let k = e.number in
    let none : statement c.in-Ok-Some.statement ≡ BlockLine → ⊥ = λ b. c.in_default.not-Block (only_block c.in-Ok-Some.statement b) in
    record {
      has_read = λ bytes s.
          let at = subst (λ (r : ScheduleReader). HasRead bytes r c.args.rest.now) (sym c.self.view_is) s in
          says bytes c.args.rest.now c.split_line.result.1.now line _ at c.split_line.ensures.split (statement c.in-Ok-Some.statement) c.say-in_default.new.self is none e.taken e.number e.edge;
      shorter = (c.split_line.ensures.shorter, omega (arith, n, k));
      early = λ h e. absurd (cc);
      so_far = λ h.
          let said : Some (statement c.in-Ok-Some.statement) ≡ form (words (content line)) = rw c.in-Ok-Some.field-0-is at c.in-Ok-Some.ensures.form in
          let skip : is_skipped line ≡ false = skipped_is line c.line_content.result.now false c.line_content.ensures c.if-is_skipped.ensures in
          let kept = not_kept c.args.self.now.past (lines c.args.rest.now) line (lines c.split_line.result.1.now) c.split_line.ensures.split h skip (statement c.in-Ok-Some.statement) said in
          let kept' = subst (λ (r : ScheduleReader). is_kept r.past (statement c.in-Ok-Some.statement) ≡ false) (sym c.self.view_is) kept in
          absurd (c.in_ok-say-in_default.ensures.early kept');
    }

pub returns-in-Ok-None-clause-has_read : goal.returns-in-Ok-None-clause-has_read
returns-in-Ok-None-clause-has_read c = λ bytes s.
    let line = c.split_line.result.0.now in
    let at = subst (λ (r : ScheduleReader). HasRead bytes r c.args.rest.now) (sym c.self.view_is) s in
    let skip : is_skipped line ≡ false = skipped_is line c.line_content.result.now false c.line_content.ensures c.if-is_skipped.ensures in
    rw c.fault_at.ensures (no_form bytes c.args.rest.now c.split_line.result.1.now line _ at c.split_line.ensures.split _ refl skip (rw c.in-Ok-None.field-0-is at c.in-Ok-None.ensures.says))

pub returns-then-is_skipped-clause-so_far : goal.returns-then-is_skipped-clause-so_far
returns-then-is_skipped-clause-so_far c = λ h.
    let line = c.split_line.result.0.now in
    let skip : is_skipped line ≡ true = skipped_is line c.line_content.result.now true c.line_content.ensures c.if-is_skipped.ensures in
    subst (λ (r : ScheduleReader). begins_late r.past (lines c.split_line.result.1.now) ≡ false) (sym c.self.view_is)
    (still_early c.args.self.now.past (lines c.args.rest.now) line (lines c.split_line.result.1.now) c.split_line.ensures.split h skip)

pub returns-in-Err-clause-early : goal.returns-in-Err-clause-early
returns-in-Err-clause-early c = λ h.
    let line = c.split_line.result.0.now in
    let skip : is_skipped line ≡ false = skipped_is line c.line_content.result.now false c.line_content.ensures c.if-is_skipped.ensures in
    let read : false ≡ true = c.in-Err.ensures.early (read_early c.args.self.now.past (lines c.args.rest.now) line (lines c.split_line.result.1.now) c.split_line.ensures.split h skip) in
    absurd (cc)
