use Rattle.std.proofs.Common.{◌≡◌, not, ◌&&◌, bytes_eq, is_none, drop}
use Rattle.std.specs.List.{find}
use Rattle.sg_protocol.specs.Keyring.{key_of}
use Rattle.sg_protocol.specs.Node.{stranger}
use Rattle.sg_keys.proofs.keyring.Keyring.covers.Given as goal

-- the first stranger is among the names that are left
abbrev pub invariant-loop-name : goal.invariant-loop-name
invariant-loop-name l = stranger l.self l.cast ≡ find (λ n. not (bytes_eq n l.self.me) && is_none (key_of l.self n)) (drop l.name-index l.name-items)
