use Rattle.std.proofs.Common.{◌≡◌, ◌+◌, drop, map}
use Rattle.toml.specs.View.{view}
use Rattle.sg_keys.specs.KeyFile.{peer_of, with_entries}
use Rattle.sg_keys.proofs.key_file.add_entries.Given as goal

-- what is left of the entries makes of the keyring what all of them make of the first
abbrev pub invariant-loop-at : goal.invariant-loop-at
invariant-loop-at l = with_entries l.fn.keys 1 (map peer_of (map view l.fn.values)) ≡ with_entries l.keys (l.at + 1) (map peer_of (map view (drop l.at l.values)))
