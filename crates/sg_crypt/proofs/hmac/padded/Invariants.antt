use Rattle.std.proofs.Common.{◌≡◌, ◌++◌, take, drop}
use Rattle.sg_protocol.specs.Texts.{padded}
use Rattle.sg_crypt.proofs.hmac.padded.Given as goal

abbrev pub invariant-bytes : goal.invariant-bytes
invariant-bytes l = l.out ≡ padded l.pad (take l.i l.block) ++ drop l.i l.block
