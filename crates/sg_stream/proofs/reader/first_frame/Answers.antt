use Rattle.sg_stream.proofs.Messages.{begins_there}
use Rattle.sg_stream.proofs.reader.first_frame.Goals as goal

pub returns-in_default-clause-bad : goal.returns-in_default-clause-bad
returns-in_default-clause-bad c =
    let h = rw c.in_default.is at c.in_ok-found.ensures.none in
    λ len. (λ e. cc, λ b. absurd (h.1 len b))

pub returns-in-Ok-clause-none : goal.returns-in-Ok-clause-none
returns-in-Ok-clause-none c =
    let t = rw c.in-Some.is at c.in_ok-found.ensures.there in
    (λ e. cc, λ none. absurd (none.0 (begins_there c.args.bytes.now c.in-Some.len t.0 t.1 t.2 t.3)))

pub returns-in-Err-clause-none : goal.returns-in-Err-clause-none
returns-in-Err-clause-none c =
    let t = rw c.in-Some.is at c.in_ok-found.ensures.there in
    (λ e. cc, λ none. absurd (none.0 (begins_there c.args.bytes.now c.in-Some.len t.0 t.1 t.2 t.3)))
