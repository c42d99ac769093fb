use Rattle.std.proofs.Common.{◌≡◌, ◌++◌, take}
use Rattle.std.specs.List.{flat_map}
use Rattle.sg_protocol.specs.Texts.{maybe_commitment}
use Rattle.sg_crypt.proofs.text.put_commitments.Given as goal

abbrev pub invariant-loop-commitment : goal.invariant-loop-commitment
invariant-loop-commitment l = l.out ≡ l.initial.out ++ flat_map maybe_commitment (take l.commitment-index l.commitments)
