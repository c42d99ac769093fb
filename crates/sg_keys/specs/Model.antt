-- How a keyring is kept.
use Rattle.std.specs.Prelude.{◌≡◌, List, map, IsTrue}
use Rattle.std.specs.List.{AllByRecursion}
use Rattle.sg_base.specs.declared.name.Name.{Name}
use Rattle.sg_crypt.specs.Model.{pair_of}
use Rattle.sg_model.specs.Lists.{all_differ}
use Rattle.sg_protocol.specs.Keyring.{Keyring, Peer}
use Rattle.sg_keys.specs.declared.keyring.Contact.{Contact}
use Rattle.sg_keys.specs.declared.keyring.Keyring.TheInside.{Inside}
use Rattle.sg_keys.specs.Names.{names_of, peer_at}

-- an entry of the table of peers
abbrev pub peer_of : Name × Contact → Peer
peer_of e = peer_at e.0 (e.1).addr (e.1).key

-- the names in the table
abbrev pub names_in : List (Name × Contact) → List Name
names_in entries = map (λ p. p.name) (map peer_of entries)

-- the keyring that is kept
abbrev pub keyring_of : Inside → Keyring
keyring_of k = record { me = k.me; ip = (k.listen).ip; port = (k.listen).port; peers = map peer_of k.peers.entries }

-- all names differ, and with each peer's key stand the two that share it
pub record HoldsKeyring (k : Inside) : Type 0 where
  pub different : IsTrue (all_differ (names_of (keyring_of k)))
  pub paired : AllByRecursion (λ e. (e.1).pair ≡ pair_of k.me e.0) k.peers.entries
