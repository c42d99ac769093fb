-- Which schedules and programs are meant.
use Rattle.std.specs.Prelude.{◌≡◌, ◌≢◌, ℕ, ◌<◌, List, [], length, IsTrue, ◌&&◌, map, ◌⊎◌, flat_map, All, AllPairs, IsSomeAnd, Contains, ⊤}
use Rattle.std.specs.List.{AllByRecursion, list_all}
use Rattle.sg_model.specs.Bytes.{IsBytes, AreBytes}
use Rattle.sg_model.specs.Lists.{below, all_differ}
use Rattle.sg_model.specs.Names.{is_name}
use Rattle.sg_model.specs.Values.{Value}
use Rattle.sg_protocol.specs.Graph.{Graph, IsGraph}
use Rattle.sg_protocol.specs.Targets.{IsTargetTable}
use Rattle.sg_protocol.specs.Accepted.{Accepted}
use Rattle.sg_protocol.specs.Evidence.{IsViewTable}
use Rattle.sg_protocol.specs.Frame.{IsValue}
use Rattle.sg_protocol.specs.Spelling.{HasSpelling}
use Rattle.sg_protocol.specs.Texts.{Hash, graph_digest}
use Rattle.sg_protocol.specs.Keyring.{Program}
use Rattle.sg_protocol.specs.Schedule.{PairKey, NamedSession, Step, Schedule, Bytes, ActStep, DeliverStep, CraftStep}
use Rattle.sg_protocol.specs.World.{new_world}
use Rattle.sg_protocol.specs.Crafted.{crafted}

-- ---- programs

-- a program is of an accepted graph, with its digest, all its views and all its targets
pub record IsProgram (sha : Hash) (p : Program) : Type 0 where
  pub is_graph : IsGraph p.graph
  pub accepted : Accepted p.graph
  pub role : p.role < length p.graph.roles
  pub digest : p.digest ≡ graph_digest sha p.graph
  pub views : IsViewTable p.graph p.role p.views
  pub targets : IsTargetTable p.graph p.targets

-- the graphs with each of their roles, in order
abbrev pub parts : List Graph → List (Graph × ℕ)
parts graphs = flat_map (λ g. map (λ r. (g, r)) (below (length g.roles))) graphs

-- the programs are those of all roles of these graphs, in order
pub record AreCompiled (sha : Hash) (graphs : List Graph) (programs : List Program) : Type 0 where
  pub each : All (IsProgram sha) programs
  pub all : map (λ p. (p.graph, p.role)) programs ≡ parts graphs

-- ---- schedules

-- A declared session is of some graph of these, by its digest, with a principal for each of its roles, all different, and a nonce and a version.
-- Another graph before it may have the same digest: that no two texts do is an assumption, and no part of the format
pub record IsDeclared (sha : Hash) (graphs : List Graph) (d : NamedSession) : Type 0 where
  pub graph : Graph
  pub is_there : Contains graphs graph
  pub digest : d.cast.graph ≡ graph_digest sha graph
  pub count : length d.cast.names ≡ length graph.roles
  pub names : IsTrue (all_differ d.cast.names && list_all is_name d.cast.names)
  pub nonce : AreBytes 16 d.cast.nonce
  pub version : (d.cast.version ≡ 1) ⊎ (d.cast.version ≡ 2)

-- the two principals differ, and their key is 32 bytes
abbrev pub IsPairKey : PairKey → Type 0
IsPairKey k = (k.one ≢ k.two) × AreBytes 32 k.key

-- an act's variables are below 256 and its values are values, delivered bytes are bytes, and a crafted frame can be made and has a spelling with zeros for the tags that it copies
abbrev pub IsStep : Hash → Schedule → Step → Type 0
IsStep sha s (ActStep who n label values) = AllByRecursion (λ (w : ℕ × Value). (w.0 < 256) × IsValue w.1) values
IsStep sha s (DeliverStep who (Bytes bs)) = IsBytes bs
IsStep sha s (CraftStep c) = IsSomeAnd (crafted sha s (new_world [] s) c) HasSpelling
IsStep sha s other = ⊤

-- the graphs are graphs of different names, the honest principals have different names, no pair has two keys, and each key, declared session and step is one as above
pub record IsSchedule (sha : Hash) (s : Schedule) : Type 0 where
  pub are_graphs : All IsGraph s.graphs
  pub graph_names : IsTrue (all_differ (map (λ g. g.name) s.graphs))
  pub honest_names : IsTrue (all_differ s.honest && list_all is_name s.honest)
  pub keys : All IsPairKey s.keys
  pub pairs : AllPairs (λ j k. ((j.one ≢ k.one) ⊎ (j.two ≢ k.two)) × ((j.one ≢ k.two) ⊎ (j.two ≢ k.one))) s.keys
  pub sessions : All (IsDeclared sha s.graphs) s.sessions
  pub steps : All (IsStep sha s) s.steps
