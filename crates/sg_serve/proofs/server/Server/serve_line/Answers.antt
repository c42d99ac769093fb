use Rattle.std.proofs.Common.{◌≡◌, refl, true, false, le_trans}
use Rattle.std.specs.Prelude.{is_some}
use Rattle.std.specs.Option.{option_copied}
use Rattle.sg_serve.specs.Served.{Outside, images_if}
use Rattle.sg_serve.specs.Representation.{HasAnswer, found_line}
use Rattle.sg_serve.proofs.Asking.{holds_all}
use Rattle.sg_serve.proofs.Ending.{went_on, wrote_part}
use Rattle.sg_serve.specs.declared.fault.ServeFault.TheVariants.{WriteFailed}
use Rattle.sg_play.proofs.Counting.{alone_same, no_fault, other_fault}
use Rattle.sg_serve.proofs.Counting.{alone_passed, alone_went, not_write}
use Rattle.sg_serve.proofs.server.Server.serve_line.Goals as goal

pub returns-in-Ok-clause-answered : goal.returns-in-Ok-clause-answered
returns-in-Ok-clause-answered g c = λ r start st a.
    let old : Outside = record { written = g.O.Sink.written c.args.out.now; sent = g.L.Link.sent c.args.link.now; coming = g.L.TimedLink.coming c.args.link.now; failed = g.L.Link.faults c.args.link.now } in
    let mid : Outside = record { written = g.O.Sink.written c.args.out.now; sent = g.L.Link.sent c.answer.new.link; coming = g.L.TimedLink.coming c.answer.new.link; failed = g.L.Link.faults c.answer.new.link } in
    let new : Outside = record { written = g.O.Sink.written c.give.new.out; sent = g.L.Link.sent c.give.new.link; coming = g.L.TimedLink.coming c.give.new.link; failed = g.L.Link.faults c.give.new.link } in
    let random = g.R.Fresh.random c.answer.new.fresh in
    let line = found_line (option_copied c.args.line) in
    let came : HasAnswer c.answer.new.self random mid.coming old.failed mid.failed r line c.in-Ok-Some.reply = (rw c.in-Ok-Some.field-0-is at c.in-Ok-Some.ensures.answered) r st a.random_left a.coming in
    went_on start old mid new random (images_if (is_some c.args.self.now.ledger) (g.D.Disk.may_leave c.answer.new.disk)) c.answer.new.self r line c.in-Ok-Some.reply a.gave refl c.answer.ensures.sent c.answer.ensures.link_falls came c.in-Ok.field-0 c.in-Ok.ensures.is_out

pub returns-in-Err-give-clause-answered : goal.returns-in-Err-give-clause-answered
returns-in-Err-give-clause-answered g c = λ r start st a.
    let old : Outside = record { written = g.O.Sink.written c.args.out.now; sent = g.L.Link.sent c.args.link.now; coming = g.L.TimedLink.coming c.args.link.now; failed = g.L.Link.faults c.args.link.now } in
    let mid : Outside = record { written = g.O.Sink.written c.args.out.now; sent = g.L.Link.sent c.answer.new.link; coming = g.L.TimedLink.coming c.answer.new.link; failed = g.L.Link.faults c.answer.new.link } in
    let random = g.R.Fresh.random c.answer.new.fresh in
    let leaves = g.D.Disk.may_leave c.answer.new.disk in
    let line = found_line (option_copied c.args.line) in
    let came : HasAnswer c.answer.new.self random mid.coming old.failed mid.failed r line c.in-Ok-Some.reply = (rw c.in-Ok-Some.field-0-is at c.in-Ok-Some.ensures.answered) r st a.random_left a.coming in
    wrote_part start old mid _ random (images_if (is_some c.args.self.now.ledger) leaves) c.answer.new.self r line c.in-Ok-Some.reply a.gave refl c.answer.ensures.sent c.answer.ensures.link_falls came c.in-Err-give.fault c.in-Err-give.ensures.causes
    (holds_all c.answer.new.self c.args.self.now leaves came.reply.0 c.in-Ok-Some.ensures.kept.same c.in-Ok-Some.ensures.kept.holds came.replied.represents) c.in-Err-give.ensures.is_out

pub returns-in-Ok-clause-faults : goal.returns-in-Ok-clause-faults
returns-in-Ok-clause-faults g c = record {
  link_falls = le_trans c.answer.ensures.link_falls c.in-Ok.ensures.is_out.falls;
  out = alone_went true c.in-Ok.ensures.faults;
  disk = alone_went true c.in-Ok-Some.ensures.kept.faults;
}

pub returns-in-Err-give-clause-faults : goal.returns-in-Err-give-clause-faults
returns-in-Err-give-clause-faults g c =
    let wrote : c.in-Err-give.fault ≡ WriteFailed = c.in-Err-give.ensures.causes in
    record {
      link_falls = le_trans c.answer.ensures.link_falls c.in-Err-give.ensures.is_out.falls;
      out = alone_passed refl c.in-Err-give.ensures.faults;
      disk = alone_same (c.in-Ok-Some.ensures.kept.faults.same (no_fault _)) (other_fault refl (λ e. absurd (cc)));
    }

pub returns-in-Ok-None-clause-faults : goal.returns-in-Ok-None-clause-faults
returns-in-Ok-None-clause-faults g c = record { link_falls = c.answer.ensures.link_falls; out = alone_same refl (no_fault _); disk = alone_went false c.in-Ok-None.ensures.kept.faults }

pub returns-in-Err-clause-faults : goal.returns-in-Err-clause-faults
returns-in-Err-clause-faults g c = record { link_falls = c.answer.ensures.link_falls; out = alone_same refl (other_fault refl (not_write c.in-Err.ensures.kept.causes)); disk = alone_passed refl c.in-Err.ensures.kept.faults }
