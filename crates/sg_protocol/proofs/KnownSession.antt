-- What is known of a session: of its cast and graph.
use Rattle.std.specs.Prelude.{◌≡◌, ℕ, List, true, length, Some}
use Rattle.sg_model.specs.Lists.{all_differ}
use Rattle.sg_protocol.specs.Graph.{Graph, IsGraph}
use Rattle.sg_protocol.specs.Accepted.{Accepted}
use Rattle.sg_protocol.specs.Evidence.{IsViewTable}
use Rattle.sg_protocol.specs.Frame.{Cast}
use Rattle.sg_protocol.specs.Texts.{Hash, IsHash, session_id, session_text_of}
use Rattle.sg_protocol.specs.TextLaws.{IsVersion, CastFits}
use Rattle.sg_protocol.specs.Keyring.{Program}
use Rattle.sg_protocol.specs.Node.{program_for}

-- a session of an accepted graph, whose sid is that of one cast among what is hashed
pub record SessionOfCast (sha : Hash) (programs : List Program) (sid : List ℕ) (cast : Cast) (g : Graph) (Hashed : List ℕ → Type 0) : Type 0 where
  pub is_hash : IsHash sha
  pub is_graph : IsGraph g
  pub accepted : Accepted g
  pub is_version : IsVersion cast.version
  pub long_sid : length sid ≡ 32
  pub names_differ : all_differ cast.names ≡ true
  pub programs_of : (r : ℕ) (p : Program) → program_for programs cast.graph r ≡ Some p → (p.graph ≡ g) × IsViewTable p.graph r p.views
  pub one_cast : (c : Cast) → CastFits c → Hashed (session_text_of c) → session_id sha c ≡ sid → c ≡ cast
