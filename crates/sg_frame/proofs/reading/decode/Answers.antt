use Rattle.std.proofs.Common.{◌≡◌, ◌≤◌, length, arith, subst, Ok, Err}
use Rattle.sg_protocol.specs.Reading.{read}
use Rattle.sg_protocol.proofs.ReadBack.{read-SpellsFrame}
use Rattle.sg_protocol.proofs.ReadLaws.{read-spelling}
use Rattle.sg_frame.proofs.Bounds.{fault_within, read_few}
use Rattle.sg_frame.proofs.reading.decode.Goals as goal

pub overflow_cast-result : goal.overflow_cast-result
overflow_cast-result c =
    let fault = rw c.in-Err-Malformed.field-0-is at c.in-Err-Malformed.ensures.ends in
    let near : c.in-Err-Malformed.at ≤ length c.args.bytes.now = fault_within c.args.bytes.now c.in-Err-Malformed.at fault in
    omega arith

pub returns-in-Ok-clause-found : goal.returns-in-Ok-clause-found
returns-in-Ok-clause-found c =
    read-SpellsFrame c.args.bytes.now c.in-Ok.frame (λ i. omega (arith, c.type_inv.bytes i))
    (read_few c.args.bytes.now (Ok c.in-Ok.frame) c.if-bytes-gt60000.false c.in-Ok.ensures.ends)

pub returns-in-Ok-clause-only : goal.returns-in-Ok-clause-only
returns-in-Ok-clause-only c = λ f spells.
    let of_f : read c.args.bytes.now ≡ Ok f = subst (λ bs. read bs ≡ Ok f) spells.spelled (read-spelling f spells.is_frame) in
    let of_frame : read c.args.bytes.now ≡ Ok c.in-Ok.frame = read_few c.args.bytes.now (Ok c.in-Ok.frame) c.if-bytes-gt60000.false c.in-Ok.ensures.ends in
    cc

pub returns-in-Err-Malformed-clause-only : goal.returns-in-Err-Malformed-clause-only
returns-in-Err-Malformed-clause-only c = λ f spells.
    let fault = rw c.in-Err-Malformed.field-0-is at c.in-Err-Malformed.ensures.ends in
    let of_f : read c.args.bytes.now ≡ Ok f = subst (λ bs. read bs ≡ Ok f) spells.spelled (read-spelling f spells.is_frame) in
    let of_fault : read c.args.bytes.now ≡ Err c.in-Err-Malformed.at = read_few c.args.bytes.now (Err c.in-Err-Malformed.at) c.if-bytes-gt60000.false fault in
    cc
