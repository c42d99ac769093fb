-- Graphs into which other graphs are put: a part is a graph, with the places where parts that stand before it are used.
use Rattle.std.specs.Prelude.{◌≡◌, ℕ, ◌<◌, ◌≤◌, List, map, length, All, IsTrue, Some, slice_get}
use Rattle.sg_model.specs.Lists.{all_differ}
use Rattle.sg_protocol.specs.Graph.{Graph, IsGraph, Name, AreNames}
use Rattle.sg_parse.specs.Grammar.{differ}

-- the part of this number is put between two nodes, and each of its roles is played by a role that stands here
pub record Use : Type 0 where
  pub name : Name
  pub part : ℕ
  pub from : ℕ
  pub to : ℕ
  pub roles : List ℕ

-- a graph, and the uses in it
pub record Part : Type 0 where
  pub graph : Graph
  pub uses : List Use

-- the names of the parts
abbrev pub part_names : List Part → List Name
part_names ps = map (λ p. p.graph.name) ps

-- the names of the uses
abbrev pub use_names : List Use → List Name
use_names us = map (λ u. u.name) us

-- a use is of one of the parts before; its nodes are there, and one or more different roles
pub record IsUse (before : ℕ) (g : Graph) (u : Use) : Type 0 where
  pub part : u.part < before
  pub from : u.from < length g.nodes
  pub to : u.to < length g.nodes
  pub some : 1 ≤ length u.roles
  pub roles : All (λ r. r < length g.roles) u.roles
  pub differ : IsTrue (differ u.roles)

-- a graph of two roles and a node or more, with uses whose names differ
pub record IsPart (before : ℕ) (p : Part) : Type 0 where
  pub graph : IsGraph p.graph
  pub two_roles : 2 ≤ length p.graph.roles
  pub has_node : 1 ≤ length p.graph.nodes
  pub names : AreNames (use_names p.uses)
  pub uses : All (IsUse before p.graph) p.uses

-- one or more parts whose names differ, each with uses of those before it
pub record AreParts (ps : List Part) : Type 0 where
  pub some : 1 ≤ length ps
  pub names : IsTrue (all_differ (part_names ps))
  pub each : (k : ℕ) (p : Part) → slice_get ps k ≡ Some p → IsPart k p
