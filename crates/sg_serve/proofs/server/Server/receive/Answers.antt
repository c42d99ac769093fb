use Rattle.std.proofs.Common.{◌∙◌, true, is_some, Err, refl, ap}
use Rattle.std.specs.Option.{option_map}
use Rattle.sg_serve.specs.Lines.{receipt}
use Rattle.sg_serve.specs.Served.{images_if}
use Rattle.sg_serve.proofs.Asking.{holds_all}
use Rattle.sg_serve.proofs.Lining.{wait_failed, wait_given}
use Rattle.sg_serve.proofs.Replying.{none_called}
use Rattle.sg_serve.proofs.Keeping.{ran_out, unasked}
use Rattle.sg_serve.proofs.server.Server.receive.Goals as goal

pub returns-in-Ok-clause-received : goal.returns-in-Ok-clause-received
returns-in-Ok-clause-received g c = λ r st co.
    wait_given (images_if (is_some c.args.self.now.ledger) (g.D.Disk.may_leave c.take.new.disk)) c.take.new.self (g.L.TimedLink.coming c.recv_within.new.self) (g.L.Link.faults c.args.link.now) (g.L.Link.faults c.recv_within.new.self) r (is_some c.args.within) (option_map (λ bytes. bytes.items) c.in-Ok.found) c.take.result
    (c.in-Ok.ensures.found r.coming co) (c.in-Ok.ensures.taken r.coming co) (c.take.ensures.replied r.serving st)

pub returns-in-Err-Failed-clause-received : goal.returns-in-Err-Failed-clause-received
returns-in-Err-Failed-clause-received g c = λ r st co.
    let sv = c.args.self.now in
    wait_failed (images_if (is_some sv.ledger) (g.D.Disk.may_leave c.args.disk.now)) sv (g.L.TimedLink.coming c.recv_within.new.self) (g.L.Link.faults c.args.link.now) (g.L.Link.faults c.recv_within.new.self) r (is_some c.args.within) c.say.result
    (holds_all sv sv (g.D.Disk.may_leave c.args.disk.now) r.serving refl c.requires.holds st) st (c.recv_within.ensures.failed (c.in-Err-Failed.is ∙ ap Err c.in-Err-Failed.field-0-is)) (c.in-Err-Failed.ensures.kept ∙ co) c.say.ensures.text

pub returns-in-Err-OutOfMemory-clause-received : goal.returns-in-Err-OutOfMemory-clause-received
returns-in-Err-OutOfMemory-clause-received g c = λ r st co.
    let sv = c.args.self.now in
    none_called (images_if (is_some sv.ledger) (g.D.Disk.may_leave c.args.disk.now)) r.serving (receipt true (is_some c.args.within) r).1
    (holds_all sv sv (g.D.Disk.may_leave c.args.disk.now) r.serving refl c.requires.holds st)

pub returns-in-Err-Failed-clause-kept : goal.returns-in-Err-Failed-clause-kept
returns-in-Err-Failed-clause-kept g c = unasked c.say.result c.say.ensures.memory c.requires.holds

pub returns-in-Err-OutOfMemory-clause-kept : goal.returns-in-Err-OutOfMemory-clause-kept
returns-in-Err-OutOfMemory-clause-kept g c = ran_out
