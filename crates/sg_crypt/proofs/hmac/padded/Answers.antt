use Rattle.std.proofs.Common.{◌<◌, bit_xor, get_or, length, arith}
use Rattle.std.proofs.lemmas.Grind.{common_steps}
use Rattle.std.proofs.lemmas.List.{get_or_default}
use Rattle.std.proofs.lemmas.List.Edits.{map_over_more}
use Rattle.sg_crypt.proofs.hmac.padded.Goals as goal

pub bytes-preserved : goal.bytes-preserved
bytes-preserved c =
    let x = get_or c.bytes.out c.bytes.i 0 in
    let within : c.bytes.i < length c.bytes.out = grind (arith, common_steps) in
    map_over_more (λ b. bit_xor c.args.pad b) c.args.block.now c.bytes.out c.bytes.i x (omega arith) c.bytes.invariant
    (get_or_default c.bytes.out c.bytes.i 0 x within)
