use Rattle.std.proofs.Common.{inr, [], Bool, refl, ap, ◌∙◌, subst}
use Rattle.std.specs.Prelude.{is_some}
use Rattle.sg_input.specs.Lines.{lines_of}
use Rattle.sg_serve.specs.Served.{Outside, Served, images_if, joins_kept, opening}
use Rattle.sg_serve.proofs.Running.{gave_none, holds_first, not_begun}
use Rattle.sg_serve.proofs.Counting.{none_failed}
use Rattle.sg_serve.proofs.run.serve.Goals as goal

pub returns-in-Err-clause-served : goal.returns-in-Err-clause-served
returns-in-Err-clause-served g c = λ bytes coming random reported is_asked drawn.
    let start : Outside = record { written = g.O.Sink.written c.args.out.now; sent = g.L.Link.sent c.args.link.now; coming = g.L.TimedLink.coming c.args.link.now; failed = g.L.Link.faults c.args.link.now } in
    not_begun start (g.R.Fresh.random c.args.fresh.now) (images_if (is_some c.args.ledger) (g.D.Disk.may_leave c.args.disk.now)) c.args.keys.now c.args.programs.now (joins_kept c.args.ledger) coming random (lines_of bytes) c.in-Err.fault c.in-Err.ensures.memory c.requires.represents

pub serve_input-came-requires : goal.serve_input-came-requires
serve_input-came-requires g c = record {
  holds = holds_first c.in-Ok.server c.args.ledger (g.D.Disk.may_leave c.args.disk.now) c.args.keys.now c.args.programs.now c.in-Ok.ensures.ledger (c.in-Ok.ensures.represents []) c.requires.working c.requires.represents;
}

pub returns-in-Ok-clause-served : goal.returns-in-Ok-clause-served
returns-in-Ok-clause-served g c = λ bytes coming random reported is_asked drawn.
    let start : Outside = record { written = g.O.Sink.written c.args.out.now; sent = g.L.Link.sent c.args.link.now; coming = g.L.TimedLink.coming c.args.link.now; failed = g.L.Link.faults c.args.link.now } in
    let now : Outside = record { written = g.O.Sink.written c.serve_input-came.new.out; sent = g.L.Link.sent c.serve_input-came.new.link; coming = g.L.TimedLink.coming c.serve_input-came.new.link; failed = g.L.Link.faults c.serve_input-came.new.link } in
    let first = opening c.args.keys.now c.args.programs.now (joins_kept c.args.ledger) coming random in
    subst (λ (b : Bool). Served start now (g.R.Fresh.random c.serve_input-came.new.fresh) (images_if b (g.D.Disk.may_leave c.serve_input-came.new.disk)) first (lines_of bytes) c.serve_input-came.result)
    (ap is_some c.in-Ok.ensures.ledger)
    (c.serve_input-came.ensures.served first bytes (c.in-Ok.ensures.represents random) reported
    (record { gave = gave_none start c.args.keys.now c.args.programs.now (joins_kept c.args.ledger) coming random; random_left = drawn; coming = is_asked }))

pub returns-in-Ok-clause-untouched : goal.returns-in-Ok-clause-untouched
returns-in-Ok-clause-untouched g c = λ none. c.serve_input-came.ensures.untouched (ap is_some c.in-Ok.ensures.ledger ∙ none)

pub returns-in-Err-clause-faults : goal.returns-in-Err-clause-faults
returns-in-Err-clause-faults g c = none_failed (inr c.in-Err.ensures.memory) refl
