use Rattle.std.proofs.Common.{refl, arith}
use Rattle.std.specs.Prelude.{is_some}
use Rattle.sg_input.specs.Lines.{lines_of}
use Rattle.sg_play.proofs.Counting.{alone_same}
use Rattle.sg_serve.specs.Served.{images_if, joins_kept}
use Rattle.sg_serve.proofs.Running.{not_begun}
use Rattle.sg_principal.proofs.Serving.{no_disk_failed, no_input_failed, no_write_failed}
use Rattle.sg_principal.proofs.serve.answer_with.Goals as goal

pub returns-in_default-clause-ends : goal.returns-in_default-clause-ends
returns-in_default-clause-ends g c = record {
  bound = refl;
  answers = λ bytes coming random known comes drawn.
      not_begun (record { written = g.O.Sink.written (c.args.stage.out).now; sent = g.L.Link.sent (c.args.stage.link).now; coming = g.L.TimedLink.coming (c.args.stage.link).now; failed = g.L.Link.faults (c.args.stage.link).now }) (g.R.Fresh.random (c.args.stage.fresh).now)
      (images_if (is_some c.args.ledger) (g.D.Disk.may_leave c.args.disk.now)) c.args.keys.now c.args.programs.now (joins_kept c.args.ledger) coming random (lines_of bytes) _ refl c.requires.represents;
  faults = record {
    link_falls = omega arith;
    out = alone_same refl no_write_failed;
    disk = alone_same refl no_disk_failed;
  };
  input_falls = omega arith;
  input_failed = λ e. absurd (no_input_failed e);
}
