use Rattle.std.proofs.Common.{Err, [], ap}
use Rattle.sg_stream.proofs.Steps.{none_ready, none_given}
use Rattle.sg_stream.proofs.Pieces.{taken_closed}
use Rattle.sg_stream.proofs.link.whole_frame.Goals as goal

pub returns-in-Ok-clause-none : goal.returns-in-Ok-clause-none
returns-in-Ok-clause-none g c = none_given _ c.args.incoming.now c.next.new.self c.in-Ok.ensures.idle c.in-Ok.ensures.same

pub returns-in-Err-BadLength-clause-pieces : goal.returns-in-Err-BadLength-clause-pieces
returns-in-Err-BadLength-clause-pieces g c = rw c.close.ensures.closed (taken_closed _ _)

pub returns-in-Err-BadLength-clause-none : goal.returns-in-Err-BadLength-clause-none
returns-in-Err-BadLength-clause-none g c =
    let is = ap Err c.in-Err-BadLength.field-0-is in
    none_ready c.args.incoming.now c.next.new.self (c.in-Err-BadLength.ensures.idle_bad _ is) (c.in-Err-BadLength.ensures.bad _ is [])

pub returns-in-Err-BadLength-clause-ready : goal.returns-in-Err-BadLength-clause-ready
returns-in-Err-BadLength-clause-ready g c =
    let is = ap Err c.in-Err-BadLength.field-0-is in
    λ some. absurd (some (none_ready c.args.incoming.now c.next.new.self (c.in-Err-BadLength.ensures.idle_bad _ is) (c.in-Err-BadLength.ensures.bad _ is [])))
