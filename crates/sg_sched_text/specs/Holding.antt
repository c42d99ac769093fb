-- What sessions and graphs must have.
use Rattle.std.specs.Prelude.{ℕ, ◌<◌, ◌≤◌, length}
use Rattle.sg_protocol.specs.TextLaws.{IsVersion}
use Rattle.sg_protocol.specs.Graph.{Graph}
use Rattle.sg_sched.specs.Format.Items.{Session}

-- a graph of two roles or more
abbrev pub HasRoles : Graph → Type 0
HasRoles g = 2 ≤ length g.roles

-- a session has a cast, and the index of its graph is below `graphs`
pub record HasCast (graphs : ℕ) (s : Session) : Type 0 where
  pub graph : s.graph < graphs
  pub version : IsVersion s.version
  pub some : 2 ≤ length s.names
  pub few : length s.names ≤ 16
