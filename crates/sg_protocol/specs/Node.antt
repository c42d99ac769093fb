-- A node, as its calls see it.
use Rattle.std.specs.Prelude.{ℕ, List, length, ◌==◌, Bool, false, ◌&&◌, nat_lt, Option, bytes_eq, not, is_none, find}
use Rattle.std.specs.List.{list_any}
use Rattle.std.specs.Option.{option_map_or}
use Rattle.sg_model.specs.Lists.{all_differ}
use Rattle.sg_model.specs.Names.{Name}
use Rattle.sg_model.specs.Shape.{role_at}
use Rattle.sg_protocol.specs.Graph.{Graph, shape}
use Rattle.sg_protocol.specs.Frame.{Cast, Frame}
use Rattle.sg_protocol.specs.Keyring.{Keyring, key_of, Program}
use Rattle.sg_protocol.specs.Session.{Session, principal}

-- its keys and programs, the pairs of sid and role that it joined, and its live sessions in the order of joining
pub record Node : Type 0 where
  pub keys : Keyring
  pub programs : List Program
  pub joins : List (List ℕ × ℕ)
  pub live : List Session

-- the program for a graph and a role: the first one that has them
abbrev pub program_for : List Program → List ℕ → ℕ → Option Program
program_for programs digest r = find (λ p. bytes_eq p.digest digest && (p.role == r)) programs

-- the program's role starts its graph
abbrev pub starts : Program → Bool
starts p = p.role == role_at (shape p.graph) 0

-- the program for a graph and the role that starts it: the first one with the digest for whose role that is the program of a starting role
abbrev pub starter : List Program → List ℕ → Option Program
starter programs digest = find (λ p. bytes_eq p.digest digest && option_map_or starts (program_for programs digest p.role) false) programs

-- the pair was joined
abbrev pub has_joined : List (List ℕ × ℕ) → List ℕ → ℕ → Bool
has_joined joins sid r = list_any (λ (j : List ℕ × ℕ). bytes_eq j.0 sid && (j.1 == r)) joins

-- the first live session with the sid
abbrev pub session_with : List Session → List ℕ → Option Session
session_with live sid = find (λ s. bytes_eq s.sid sid) live

-- the session has the sid, the role and the version of a frame
abbrev pub is_for : Frame → Session → Bool
is_for f s = bytes_eq s.sid f.sid && (s.role == f.receiver) && (s.cast.version == f.version)

-- the live session for which a frame is
abbrev pub session_for : List Session → Frame → Option Session
session_for live f = find (is_for f) live

-- the first principal of the cast, other than me, with whom no key is shared
abbrev pub stranger : Keyring → Cast → Option Name
stranger keys c = find (λ n. not (bytes_eq n keys.me) && is_none (key_of keys n)) c.names

-- it has as many principals as the graph has roles, all different, and I have this role
abbrev pub is_cast : Keyring → Graph → Cast → ℕ → Bool
is_cast keys g c r = (length c.names == length g.roles) && all_differ c.names && nat_lt r (length c.names) && bytes_eq (principal c r) keys.me
