-- The key file: the keyring that the data of its TOML text spell, or the first fault.
use Rattle.std.specs.Prelude.{◌≡◌, IsTrue, ℕ, ◌+◌, Bool, true, ◌&&◌, if◌then◌else◌, List, [], ◌∷◌, ◌++◌, map, codes, Option, Some, None, is_some, option_and_then, Result, Ok, Err}
use Rattle.std.specs.List.{list_all}
use Rattle.std.specs.Str.{is_utf8}
use Rattle.sg_base.specs.declared.address.Addr.{Addr}
use Rattle.sg_model.specs.Lists.{all_differ, has_text}
use Rattle.sg_model.specs.Names.{Name}
use Rattle.sg_protocol.specs.Keyring.{Keyring, Peer}
use Rattle.toml.specs.Data.{Data, Items, no_items, item, Members, no_members, member, get_member, as_str, as_array, as_table}
use Rattle.toml.specs.Parse.{parse_document}
use Rattle.sg_keys.specs.declared.key_file.KeyFault.{KeyFault}
use Rattle.sg_keys.specs.declared.key_file.KeyFault.TheVariants.{NotToml, BadEntry, Twice}
use Rattle.sg_keys.specs.Names.{names_of, peer_at}
use Rattle.sg_base.specs.Words.{name, hex_bytes}
use Rattle.sg_keys.specs.Words.{address}

-- ---- tables

-- each key of the table passes
abbrev pub all_keys : (List ℕ → Bool) → Members → Bool
all_keys passes no_members = true
all_keys passes (member k d table) = passes k && all_keys passes table

-- each key of the table is one of these words
abbrev pub has_keys_alone : List (List ℕ) → Members → Bool
has_keys_alone words table = all_keys (λ k. has_text k words) table

-- the text at a key
abbrev pub text_at : List ℕ → Members → Option (List ℕ)
text_at key table = option_and_then as_str (get_member key table)

-- what the text at a key spells
abbrev pub at : {A : Type 0} → (List ℕ → Option A) → List ℕ → Members → Option A
at spelled key table = option_and_then spelled (text_at key table)

-- the items in order
abbrev pub list_of : Items → List Data
list_of no_items = []
list_of (item d ds) = d ∷ list_of ds

-- ---- entries

-- a peer of its three parts
abbrev pub peer_from : Option Name → Option Addr → Option (List ℕ) → Option Peer
peer_from (Some n) (Some a) (Some k) = Some (peer_at n a k)
peer_from _ _ _ = None

-- a table with exactly a name, an address and a key
abbrev pub peer_in : Members → Option Peer
peer_in table =
    if has_keys_alone (codes "name" ∷ codes "addr" ∷ codes "key" ∷ []) table
    then peer_from (at name (codes "name") table) (at address (codes "addr") table) (at (hex_bytes 32) (codes "key") table)
    else None

-- the peer of an entry
unfoldable pub peer_of : Data → Option Peer
peer_of d = option_and_then peer_in (as_table d)

-- the items, if each is a table
abbrev pub tables_in : Items → Option (List Data)
tables_in items = if list_all (λ d. is_some (as_table d)) (list_of items) then Some (list_of items) else None

-- a list of tables, which may be missing
abbrev pub tables_of : Option Data → Option (List Data)
tables_of None = Some []
tables_of (Some d) = option_and_then tables_in (as_array d)

-- a keyring without peers, and the entries of its peers
pub record Head : Type 0 where
  pub me : Name
  pub listen : Addr
  pub entries : List Data

-- the head of its three parts
abbrev pub head_from : Option Name → Option Addr → Option (List Data) → Option Head
head_from (Some n) (Some a) (Some es) = Some (record { me = n; listen = a; entries = es })
head_from _ _ _ = None

-- a table with exactly the principal's own name, an address, and maybe a list of tables
unfoldable pub head_of : Members → Option Head
head_of table =
    if has_keys_alone (codes "me" ∷ codes "listen" ∷ codes "peer" ∷ []) table
    then head_from (at name (codes "me") table) (at address (codes "listen") table) (tables_of (get_member (codes "peer") table))
    else None

-- ---- what the file spells

-- what the bytes say as TOML
unfoldable pub document : List ℕ → Option Members
document bytes = if is_utf8 bytes then parse_document bytes else None

-- the data spell the keyring: its head, each of its peers in order, and no name twice
pub record SpellsKeyring (table : Members) (keys : Keyring) : Type 0 where
  pub entries : List Data
  pub head : head_of table ≡ Some (record { me = keys.me; listen = record { ip = keys.ip; port = keys.port }; entries = entries })
  pub peers : map peer_of entries ≡ map Some keys.peers
  pub differ : IsTrue (all_differ (names_of keys))

-- the bytes of a key file spell the keyring
abbrev pub SpellsKeys : List ℕ → Keyring → Type 0
SpellsKeys bytes keys = (table : Members) × (document bytes ≡ Some table) × SpellsKeyring table keys

-- ---- the first fault

-- a keyring with the peer of the entry of this number
abbrev pub with_entry : Keyring → ℕ → Option Peer → Result Keyring KeyFault
with_entry keys i None = Err (BadEntry i)
with_entry keys i (Some p) = if has_text p.name (names_of keys) then Err (Twice i) else Ok (record keys { peers = keys.peers ++ p ∷ [] })

-- the second step, if the first gave a keyring
abbrev pub then_with : Result Keyring KeyFault → (Keyring → Result Keyring KeyFault) → Result Keyring KeyFault
then_with (Ok keys) next = next keys
then_with (Err fault) next = Err fault

-- a keyring with the peers of the entries from this number on, or the first fault
abbrev pub with_entries : Keyring → ℕ → List (Option Peer) → Result Keyring KeyFault
with_entries keys i [] = Ok keys
with_entries keys i (p ∷ ps) = then_with (with_entry keys i p) (λ k. with_entries k (i + 1) ps)

-- a keyring without peers
abbrev pub alone : Head → Keyring
alone h = record { me = h.me; ip = (h.listen).ip; port = (h.listen).port; peers = [] }

-- the answer to a head: it is entry 0, and the peers are entries 1 and on
abbrev pub answer_to_head : Option Head → Result Keyring KeyFault
answer_to_head None = Err (BadEntry 0)
answer_to_head (Some h) = with_entries (alone h) 1 (map peer_of h.entries)

-- the answer to a document
abbrev pub answer_to : Option Members → Result Keyring KeyFault
answer_to None = Err NotToml
answer_to (Some table) = answer_to_head (head_of table)

-- the keyring that the bytes of a key file spell, or the first fault
abbrev pub key_file : List ℕ → Result Keyring KeyFault
key_file bytes = answer_to (document bytes)
