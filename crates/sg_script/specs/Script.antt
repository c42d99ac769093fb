-- What a script says.
use Rattle.std.specs.Prelude.{◌≡◌, ℕ, ◌<◌, ◌≤◌, List, All, IsTrue, length, map, find, Some}
use Rattle.sg_model.specs.Last.{Map}
use Rattle.sg_model.specs.Lists.{rises_from}
use Rattle.sg_model.specs.Names.{Name, is_name}
use Rattle.sg_model.specs.Values.{Value}
use Rattle.sg_model.specs.Limits.{most_roles, most_times}
use Rattle.sg_protocol.specs.Keyring.{Program}
use Rattle.sg_protocol.specs.TextLaws.{IsVersion}
use Rattle.sg_program.specs.Together.{is_named}

-- a session to start: its graph by its name, its version, and the principal of each role in order
pub record Start : Type 0 where
  pub graph : Name
  pub version : ℕ
  pub cast : List Name

-- a step to take at a node of a graph: its label, what it writes, and how often it may be taken
pub record Choice : Type 0 where
  pub graph : Name
  pub node : ℕ
  pub label : ℕ
  pub values : Map Value
  pub times : ℕ

-- what is started and what is chosen, each in order
pub record Script : Type 0 where
  pub starts : List Start
  pub choices : List Choice

-- ---- what holds of a script that is read beside these programs

-- a program of its graph is there, the version is 1 or 2, and the cast has 2 to 16 names
pub record IsStart (programs : List Program) (s : Start) : Type 0 where
  pub program : Program
  pub found : find (is_named s.graph) programs ≡ Some program
  pub version : IsVersion s.version
  pub two : 2 ≤ length s.cast
  pub sixteen : length s.cast ≤ most_roles
  pub names : All (λ n. IsTrue (is_name n)) s.cast

-- a program of its graph is there, which has the node and the label; the variables rise, and the graph has them
pub record IsChoice (programs : List Program) (c : Choice) : Type 0 where
  pub program : Program
  pub found : find (is_named c.graph) programs ≡ Some program
  pub node : c.node < length program.graph.nodes
  pub label : c.label < length program.graph.edges
  pub rise : IsTrue (rises_from 0 (map (λ w. w.0) c.values))
  pub variables : All (λ w. w.0 < length program.graph.variables) c.values
  pub once : 1 ≤ c.times
  pub many : c.times ≤ most_times

-- each start and each choice is one
pub record IsScript (programs : List Program) (s : Script) : Type 0 where
  pub starts : All (IsStart programs) s.starts
  pub choices : All (IsChoice programs) s.choices
