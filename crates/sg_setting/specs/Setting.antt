-- What a replay goes by: the programs, and what is declared.
use Rattle.std.specs.Prelude.{List}
use Rattle.sg_protocol.specs.Graph.{Graph}
use Rattle.sg_protocol.specs.Keyring.{Program}
use Rattle.sg_protocol.specs.Schedule.{PairKey, NamedSession}

-- the programs, the graphs, the keys of pairs of principals, and the sessions
pub record Setting : Type 0 where
  pub programs : List Program
  pub graphs : List Graph
  pub keys : List PairKey
  pub sessions : List NamedSession
