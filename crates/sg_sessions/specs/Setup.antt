-- What a generated run declares: its principals, their keys and its sessions.
use Rattle.std.specs.Prelude.{ℕ, ◌+◌, ◌-◌, List, [], ◌∷◌, map, flat_map, length, replicate}
use Rattle.std.specs.Fmt.{decimal}
use Rattle.sg_model.specs.Lists.{below, range_from}
use Rattle.sg_model.specs.Names.{Name}
use Rattle.sg_protocol.specs.Crafted.{nonce_of}
use Rattle.sg_protocol.specs.Graph.{Graph}
use Rattle.sg_protocol.specs.Schedule.{PairKey, NamedSession, Schedule}
use Rattle.sg_protocol.specs.Texts.{real, graph_digest}

-- the principal of a role: p and the role's number
abbrev pub player : ℕ → Name
player role = 112 ∷ decimal role

-- the principals of `roles` roles, in order
abbrev pub players : ℕ → List Name
players roles = map player (below roles)

-- the key of the principals of two roles: both numbers, then thirty zeros
abbrev pub key_of : (i j : ℕ) → PairKey
key_of i j = record { one = player i; two = player j; key = i ∷ j ∷ replicate 30 0 }

-- the keys of a role's principal and those of later roles
abbrev pub keys_with_later : (roles i : ℕ) → List PairKey
keys_with_later roles i = map (key_of i) (range_from (i + 1) (roles - (i + 1)))

-- a key for each two principals
abbrev pub keys_for : ℕ → List PairKey
keys_for roles = flat_map (keys_with_later roles) (below roles)

-- session number s: its name is s and the number, its nonce is the number
abbrev pub numbered_session : Graph → ℕ → NamedSession
numbered_session g s = record {
  name = 115 ∷ decimal s;
  cast = record { version = 1; graph = graph_digest real g; nonce = nonce_of s; names = players (length g.roles) };
}

-- `sessions` sessions of a graph, counted from 1, with a principal for each role, all of them honest; no step
abbrev pub setup : (sessions : ℕ) → Graph → Schedule
setup sessions g = record {
  graphs = g ∷ [];
  honest = players (length g.roles);
  keys = keys_for (length g.roles);
  sessions = map (numbered_session g) (range_from 1 sessions);
  steps = [];
}
