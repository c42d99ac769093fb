-- What a principal is given: its keys, and a program for each role that it plays.
use Rattle.std.specs.Prelude.{ℕ, List, [], Bool, Option, Some, bytes_eq, get_or, option_map, find}
use Rattle.std.specs.List.{list_any}
use Rattle.sg_model.specs.Names.{Name}
use Rattle.sg_protocol.specs.Graph.{Graph}
use Rattle.sg_protocol.specs.Evidence.{View, same_origin}

-- another principal: where it is, and the key shared with it
pub record Peer : Type 0 where
  pub name : Name
  pub ip : List ℕ
  pub port : ℕ
  pub key : List ℕ

-- one principal's name and address, and its peers, all different
pub record Keyring : Type 0 where
  pub me : Name
  pub ip : List ℕ
  pub port : ℕ
  pub peers : List Peer

-- the key shared with a principal
abbrev pub key_of : Keyring → Name → Option (List ℕ)
key_of keys name = option_map (λ p. p.key) (find (λ p. bytes_eq p.name name) keys.peers)

-- a compiled graph for one role: its digest, the table of the views of the role, and for each edge its targets
pub record Program : Type 0 where
  pub graph : Graph
  pub role : ℕ
  pub digest : List ℕ
  pub views : List View
  pub targets : List (List ℕ)

-- the targets of an edge
abbrev pub targets_of : Program → ℕ → List ℕ
targets_of p e = get_or p.targets e []

-- after its step along e a role has a node to come to: the table has a view from there
abbrev pub may_return : Program → ℕ → Bool
may_return p e = list_any (λ v. same_origin v.origin (Some e)) p.views
