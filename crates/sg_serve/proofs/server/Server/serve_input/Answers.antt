use Rattle.std.proofs.Common.{inr, take, [], refl, ap, ◌∙◌}
use Rattle.sg_input.specs.Lines.{lines_left, lines_of}
use Rattle.sg_input.specs.Model.{Reading}
use Rattle.sg_serve.specs.declared.fault.ServeFault.TheVariants.{OutOfMemory}
use Rattle.sg_serve.specs.Lines.{most_lines}
use Rattle.sg_serve.specs.Served.{Outside}
use Rattle.sg_serve.proofs.Counting.{none_failed}
use Rattle.sg_serve.proofs.Ending.{memory_ended}
use Rattle.sg_serve.proofs.server.Server.serve_input.Goals as goal

pub returns-in_default-clause-served : goal.returns-in_default-clause-served
returns-in_default-clause-served g c = λ r bytes st reported a.
    let start : Outside = record { written = g.O.Sink.written c.args.out.now; sent = g.L.Link.sent c.args.link.now; coming = g.L.TimedLink.coming c.args.link.now; failed = g.L.Link.faults c.args.link.now } in
    memory_ended start start (g.R.Fresh.random c.args.fresh.now) c.args.self.now c.args.self.now (g.D.Disk.may_leave c.args.disk.now) r (lines_of bytes) (take most_lines (lines_of bytes)) (record { prefix = []; is = refl; represents = st; agrees = a }) refl c.requires.holds OutOfMemory refl

pub returns-in_default-clause-faults : goal.returns-in_default-clause-faults
returns-in_default-clause-faults g c = none_failed (inr refl) refl

pub returns-clause-served : goal.returns-clause-served
returns-clause-served g c = λ r bytes st reported a.
    c.serve_all.ensures.served r (lines_of bytes) st (ap (λ (rd : Reading). lines_left rd.unread (g.I.Input.coming c.args.input.now)) c.in-Ok.ensures ∙ ap (λ o. lines_left [] o) reported) a
