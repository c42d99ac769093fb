use Rattle.std.proofs.Common.{inl, inr, ◌≡◌, ◌-◌, ◌∙◌, take, ℕ, List, Bool, drop, Ok, refl, ap, subst, arith, le_trans, []}
use Rattle.std.specs.Prelude.{is_some}
use Rattle.std.specs.Option.{option_copied}
use Rattle.sg_input.specs.Lines.{Line}
use Rattle.sg_serve.specs.declared.fault.ServeFault.TheVariants.{InputFailed, OutOfMemory}
use Rattle.sg_serve.specs.Lines.{most_lines}
use Rattle.sg_serve.specs.Served.{Outside, images_if}
use Rattle.sg_serve.specs.Representation.{Answered, Serves, found_line}
use Rattle.sg_serve.proofs.Counting.{counted_passed, counted_then, counted_went, none_counted, none_failed}
use Rattle.sg_serve.proofs.Ending.{failed_line, input_ended, last_line, memory_ended, next_line, no_line}
use Rattle.sg_serve.proofs.Running.{next_left, one_fewer, take_none, taken_on}
use Rattle.sg_serve.proofs.server.Server.serve_all.Goals as goal

pub returns-in-Err-clause-served : goal.returns-in-Err-clause-served
returns-in-Err-clause-served g c = λ r lines st reported a.
    let start : Outside = record { written = g.O.Sink.written c.args.out.now; sent = g.L.Link.sent c.args.link.now; coming = g.L.TimedLink.coming c.args.link.now; failed = g.L.Link.faults c.args.link.now } in
    let old : Outside = record { written = g.O.Sink.written c.loop-line.out; sent = g.L.Link.sent c.loop-line.link; coming = g.L.TimedLink.coming c.loop-line.link; failed = g.L.Link.faults c.loop-line.link } in
    let new : Outside = record { written = g.O.Sink.written c.serve_line.new.out; sent = g.L.Link.sent c.serve_line.new.link; coming = g.L.TimedLink.coming c.serve_line.new.link; failed = g.L.Link.faults c.serve_line.new.link } in
    let before = c.loop-line.invariant.served r lines st reported a in
    let line = found_line (option_copied c.line_found.result) in
    let next = next_left c.in-Ok-Some.found c.next.new.self.line line c.line_found.ensures before.0 most_lines c.loop-line._line c.loop-line-test.true _ _ c.next.result (c.in-Ok-Some.is ∙ ap Ok c.in-Ok-Some.field-0-is) c.next.ensures.line c.next.ensures.too_long before.1 in
    failed_line start old new (g.R.Fresh.random c.loop-line.fresh) (g.R.Fresh.random c.serve_line.new.fresh) c.loop-line.self c.serve_line.new.self r lines (take (most_lines - c.loop-line._line) before.0) line before.2 next.0
    (is_some c.loop-line.self.ledger) (is_some c.args.self.now.ledger) (g.D.Disk.may_leave c.serve_line.new.disk) c.in-Err.fault c.loop-line.invariant.same (λ z zs za. c.in-Err.ensures.answered z start zs za)

pub returns-in-Ok-false-clause-served : goal.returns-in-Ok-false-clause-served
returns-in-Ok-false-clause-served g c = λ r lines st reported a.
    let start : Outside = record { written = g.O.Sink.written c.args.out.now; sent = g.L.Link.sent c.args.link.now; coming = g.L.TimedLink.coming c.args.link.now; failed = g.L.Link.faults c.args.link.now } in
    let old : Outside = record { written = g.O.Sink.written c.loop-line.out; sent = g.L.Link.sent c.loop-line.link; coming = g.L.TimedLink.coming c.loop-line.link; failed = g.L.Link.faults c.loop-line.link } in
    let new : Outside = record { written = g.O.Sink.written c.serve_line.new.out; sent = g.L.Link.sent c.serve_line.new.link; coming = g.L.TimedLink.coming c.serve_line.new.link; failed = g.L.Link.faults c.serve_line.new.link } in
    let random = g.R.Fresh.random c.serve_line.new.fresh in
    let leaves = g.D.Disk.may_leave c.serve_line.new.disk in
    let images = images_if (is_some c.loop-line.self.ledger) leaves in
    let before = c.loop-line.invariant.served r lines st reported a in
    let line = found_line (option_copied c.line_found.result) in
    let next = next_left c.in-Ok-Some.found c.next.new.self.line line c.line_found.ensures before.0 most_lines c.loop-line._line c.loop-line-test.true _ _ c.next.result (c.in-Ok-Some.is ∙ ap Ok c.in-Ok-Some.field-0-is) c.next.ensures.line c.next.ensures.too_long before.1 in
    last_line start old new (g.R.Fresh.random c.loop-line.fresh) random c.loop-line.self c.serve_line.new.self r lines (take (most_lines - c.loop-line._line) before.0) line before.2 next.0
    images c.args.self.now leaves (c.in-Ok-false.ensures.same ∙ c.loop-line.invariant.same) c.in-Ok-false.ensures.holds
    (λ z zs za. subst (λ (b : Bool). Answered start new random images c.serve_line.new.self z line (Ok b)) c.in-Ok-false.field-0-test (c.in-Ok-false.ensures.answered z start zs za))

pub returns-in-Ok-None-clause-served : goal.returns-in-Ok-None-clause-served
returns-in-Ok-None-clause-served g c = λ r lines st reported a.
    let start : Outside = record { written = g.O.Sink.written c.args.out.now; sent = g.L.Link.sent c.args.link.now; coming = g.L.TimedLink.coming c.args.link.now; failed = g.L.Link.faults c.args.link.now } in
    let old : Outside = record { written = g.O.Sink.written c.loop-line.out; sent = g.L.Link.sent c.loop-line.link; coming = g.L.TimedLink.coming c.loop-line.link; failed = g.L.Link.faults c.loop-line.link } in
    let before = c.loop-line.invariant.served r lines st reported a in
    no_line start old (g.R.Fresh.random c.loop-line.fresh) c.loop-line.self c.args.self.now (g.D.Disk.may_leave c.loop-line.disk) r lines (take (most_lines - c.loop-line._line) before.0) before.2 c.loop-line.invariant.same c.loop-line.invariant.holds (ap (take (most_lines - c.loop-line._line)) (c.next.ensures.at_end (c.in-Ok-None.is ∙ ap Ok c.in-Ok-None.field-0-is) before.0 before.1) ∙ take_none (most_lines - c.loop-line._line))

pub returns-in-Err-Failed-clause-served : goal.returns-in-Err-Failed-clause-served
returns-in-Err-Failed-clause-served g c = λ r lines st reported a.
    let start : Outside = record { written = g.O.Sink.written c.args.out.now; sent = g.L.Link.sent c.args.link.now; coming = g.L.TimedLink.coming c.args.link.now; failed = g.L.Link.faults c.args.link.now } in
    let old : Outside = record { written = g.O.Sink.written c.loop-line.out; sent = g.L.Link.sent c.loop-line.link; coming = g.L.TimedLink.coming c.loop-line.link; failed = g.L.Link.faults c.loop-line.link } in
    let before = c.loop-line.invariant.served r lines st reported a in
    input_ended start old (g.R.Fresh.random c.loop-line.fresh) c.loop-line.self c.args.self.now (g.D.Disk.may_leave c.loop-line.disk) r lines (take (most_lines - c.loop-line._line) before.0) before.2 c.loop-line.invariant.same c.loop-line.invariant.holds InputFailed refl

pub returns-in-Err-OutOfMemory-clause-served : goal.returns-in-Err-OutOfMemory-clause-served
returns-in-Err-OutOfMemory-clause-served g c = λ r lines st reported a.
    let start : Outside = record { written = g.O.Sink.written c.args.out.now; sent = g.L.Link.sent c.args.link.now; coming = g.L.TimedLink.coming c.args.link.now; failed = g.L.Link.faults c.args.link.now } in
    let old : Outside = record { written = g.O.Sink.written c.loop-line.out; sent = g.L.Link.sent c.loop-line.link; coming = g.L.TimedLink.coming c.loop-line.link; failed = g.L.Link.faults c.loop-line.link } in
    let before = c.loop-line.invariant.served r lines st reported a in
    memory_ended start old (g.R.Fresh.random c.loop-line.fresh) c.loop-line.self c.args.self.now (g.D.Disk.may_leave c.loop-line.disk) r lines (take (most_lines - c.loop-line._line) before.0) before.2 c.loop-line.invariant.same c.loop-line.invariant.holds OutOfMemory refl

pub returns-clause-served : goal.returns-clause-served
returns-clause-served g c = λ r lines st reported a.
    let start : Outside = record { written = g.O.Sink.written c.args.out.now; sent = g.L.Link.sent c.args.link.now; coming = g.L.TimedLink.coming c.args.link.now; failed = g.L.Link.faults c.args.link.now } in
    let old : Outside = record { written = g.O.Sink.written c.loop-line.out; sent = g.L.Link.sent c.loop-line.link; coming = g.L.TimedLink.coming c.loop-line.link; failed = g.L.Link.faults c.loop-line.link } in
    let before = c.loop-line.invariant.served r lines st reported a in
    let no_more : most_lines - c.loop-line._line ≡ 0 = omega (arith, c.loop-line-test.false) in
    no_line start old (g.R.Fresh.random c.loop-line.fresh) c.loop-line.self c.args.self.now (g.D.Disk.may_leave c.loop-line.disk) r lines (take (most_lines - c.loop-line._line) before.0) before.2 c.loop-line.invariant.same c.loop-line.invariant.holds (ap (λ (n : ℕ). take n before.0) no_more)

pub loop-line-preserved : goal.loop-line-preserved
loop-line-preserved g c =
    let inv = c.loop-line.invariant in
    let start : Outside = record { written = g.O.Sink.written c.args.out.now; sent = g.L.Link.sent c.args.link.now; coming = g.L.TimedLink.coming c.args.link.now; failed = g.L.Link.faults c.args.link.now } in
    let old : Outside = record { written = g.O.Sink.written c.loop-line.out; sent = g.L.Link.sent c.loop-line.link; coming = g.L.TimedLink.coming c.loop-line.link; failed = g.L.Link.faults c.loop-line.link } in
    let new : Outside = record { written = g.O.Sink.written c.serve_line.new.out; sent = g.L.Link.sent c.serve_line.new.link; coming = g.L.TimedLink.coming c.serve_line.new.link; failed = g.L.Link.faults c.serve_line.new.link } in
    let random = g.R.Fresh.random c.serve_line.new.fresh in
    let images = images_if (is_some c.loop-line.self.ledger) (g.D.Disk.may_leave c.serve_line.new.disk) in
    record {
      link_bound = c.serve_line.ensures.link_bound ∙ inv.link_bound;
      disk_bound = c.serve_line.ensures.disk_bound ∙ inv.disk_bound;
      faults = counted_then inv.faults (counted_went tt c.in-Ok-true.ensures.faults);
      input_falls = le_trans inv.input_falls c.next.ensures.never_falls;
      same = c.in-Ok-true.ensures.same ∙ inv.same;
      untouched = λ none. c.serve_line.ensures.untouched (inv.same ∙ none) ∙ inv.untouched none;
      holds = c.in-Ok-true.ensures.holds;
      served = λ r lines st reported a.
          let before = inv.served r lines st reported a in
          let line = found_line (option_copied c.line_found.result) in
          let n = most_lines - c.loop-line._line in
          let next = next_left c.in-Ok-Some.found c.next.new.self.line line c.line_found.ensures before.0 most_lines c.loop-line._line c.loop-line-test.true _ _ c.next.result (c.in-Ok-Some.is ∙ ap Ok c.in-Ok-Some.field-0-is) c.next.ensures.line c.next.ensures.too_long before.1 in (
            drop 1 before.0,
            next.1,
            subst (λ (ls : List Line). Serves start new random c.serve_line.new.self r lines ls) (taken_on n before.0 ∙ ap (λ (m : ℕ). take m (drop 1 before.0)) (one_fewer most_lines c.loop-line._line))
                (next_line start old new (g.R.Fresh.random c.loop-line.fresh) random c.loop-line.self c.serve_line.new.self r lines (take n before.0) line before.2 next.0 images
                (λ z zs za. subst (λ (b : Bool). Answered start new random images c.serve_line.new.self z line (Ok b)) c.in-Ok-true.field-0-test (c.in-Ok-true.ensures.answered z start zs za))),
          );
    }

pub loop-line-init : goal.loop-line-init
loop-line-init g c = record {
  link_bound = refl;
  disk_bound = refl;
  faults = none_counted _ tt;
  input_falls = omega arith;
  same = refl;
  untouched = λ none. refl;
  holds = c.requires.holds;
  served = λ r lines st reported a. (lines, reported, record { prefix = []; is = refl; represents = st; agrees = a });
}

pub returns-in-Err-clause-faults : goal.returns-in-Err-clause-faults
returns-in-Err-clause-faults g c = counted_passed refl (counted_then c.loop-line.invariant.faults c.in-Err.ensures.faults)

pub returns-in-Ok-false-clause-faults : goal.returns-in-Ok-false-clause-faults
returns-in-Ok-false-clause-faults g c = counted_then c.loop-line.invariant.faults (counted_went tt c.in-Ok-false.ensures.faults)

pub returns-in-Ok-None-clause-faults : goal.returns-in-Ok-None-clause-faults
returns-in-Ok-None-clause-faults g c = c.loop-line.invariant.faults

pub returns-in-Err-Failed-clause-faults : goal.returns-in-Err-Failed-clause-faults
returns-in-Err-Failed-clause-faults g c = counted_then c.loop-line.invariant.faults (none_failed (inl refl) refl)

pub returns-in-Err-OutOfMemory-clause-faults : goal.returns-in-Err-OutOfMemory-clause-faults
returns-in-Err-OutOfMemory-clause-faults g c = counted_then c.loop-line.invariant.faults (none_failed (inr refl) refl)

pub returns-clause-faults : goal.returns-clause-faults
returns-clause-faults g c = c.loop-line.invariant.faults
