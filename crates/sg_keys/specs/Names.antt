-- The names of a keyring, and what is found at one.
use Rattle.std.specs.Prelude.{ℕ, List, [], ◌∷◌, ◌++◌, map, find, Option, option_map, bytes_eq}
use Rattle.sg_base.specs.declared.address.Addr.{Addr}
use Rattle.sg_model.specs.Names.{Name}
use Rattle.sg_protocol.specs.Keyring.{Keyring, Peer}

-- the principal's own name, and its peers'
abbrev pub names_of : Keyring → List Name
names_of keys = keys.me ∷ map (λ p. p.name) keys.peers

-- a peer at an address, with the key shared with it
abbrev pub peer_at : Name → Addr → List ℕ → Peer
peer_at name addr key = record { name = name; ip = addr.ip; port = addr.port; key = key }

-- a keyring with one more peer
abbrev pub with_peer : Keyring → Name → Addr → List ℕ → Keyring
with_peer keys name addr key = record keys { peers = keys.peers ++ peer_at name addr key ∷ [] }

-- where a peer is
abbrev pub addr_of : Keyring → Name → Option Addr
addr_of keys name = option_map (λ p. record { ip = p.ip; port = p.port }) (find (λ p. bytes_eq p.name name) keys.peers)
