use Rattle.std.proofs.Common.{◌≡◌, take}
use Rattle.sg_protocol.specs.World.{keyring_of}
use Rattle.sg_setting.proofs.pairs.keyring.Given as goal

-- the keys so far
abbrev pub invariant-loop-pair : goal.invariant-loop-pair
invariant-loop-pair l = l.ring ≡ keyring_of (take l.pair-index l.keys) l.me
