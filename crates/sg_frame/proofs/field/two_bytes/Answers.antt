use Rattle.std.proofs.Common.{arith, refl}
use Rattle.std.specs.Int.{w16}
use Rattle.sg_frame.proofs.Fields.{number_found}
use Rattle.sg_frame.proofs.field.two_bytes.Goals as goal

pub returns-clause-reads : goal.returns-clause-reads
returns-clause-reads c =
    let moves = c.in_ok-value.ensures.moves in
    rw moves.moved (number_found w16 c.args.low c.args.high c.in_ok-value.value c.args.input.now (moves.found.0 refl) c.in_ok-value.ensures.value (omega arith) (omega arith))
