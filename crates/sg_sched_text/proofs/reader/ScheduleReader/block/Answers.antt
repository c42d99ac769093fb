-- A block, and what follows it.
use Rattle.std.proofs.Common.{◌≡◌, ◌∙◌, ap, refl, rules, arith, Err, ◌+◌}
use Rattle.sg_sched_text.specs.declared.reader.ScheduleReader.{ScheduleReader}
use Rattle.sg_sched_text.proofs.ReadSoFarLaws.{not_closed, shows, bad_fault}
use Rattle.sg_sched_text.proofs.reader.ScheduleReader.block.Goals as goal

pub returns-in_err-show-in-Some-clause-has_read : goal.returns-in_err-show-in-Some-clause-has_read
returns-in_err-show-in-Some-clause-has_read c = λ bytes o.
    let r = c.args.self.now in
    let b = c.in-Some.block in
    let counted : ScheduleReader = record r { number = r.number + (b.count + 1) } in
    let more : r.number + (b.count + 1) ≡ r.number + b.count + 1 = omega arith in
    let same : c.from_residual.result ≡ Err c.in_err-show-in-Some.field-0.0 = search rules in
    rw same (bad_fault bytes c.args.after.now r o b.text.now b.rest.now b.count c.in-Some.ensures.closed counted refl more refl c.in_err-show-in-Some.field-0.0 c.in_err-show-in-Some.ensures.bad)

pub returns-in_ok-show-in-Some-clause-has_read : goal.returns-in_ok-show-in-Some-clause-has_read
returns-in_ok-show-in-Some-clause-has_read c = λ bytes o.
    let r = c.args.self.now in
    let b = c.in-Some.block in
    let more : r.number + (b.count + 1) ≡ r.number + b.count + 1 = omega arith in
    let e = c.in_ok-show-in-Some.ensures in
    shows bytes c.args.after.now r o b.text.now b.rest.now b.count c.in-Some.ensures.closed c.show.new.self e.shown (e.number ∙ more) e.edge

pub returns-in-None-clause-has_read : goal.returns-in-None-clause-has_read
returns-in-None-clause-has_read c = λ bytes o.
    let r = c.args.self.now in
    not_closed bytes c.args.after.now r o (r.number + c.count_lines.result) (ap (λ n. r.number + n) c.count_lines.ensures.count) c.in-None.ensures.closed
