-- What clauses see of the generator.
use Rattle.std.specs.Prelude.{ℕ, ◌+◌, ◌<◌, ◌≤◌, length}
use Rattle.sg_model.specs.Limits.{most_steps}
use Rattle.sg_protocol.specs.Graph.{Graph}
use Rattle.sg_drive.specs.Going.{Pending, Going}

-- the seed, how many sessions are declared, the graph, and the run so far
pub record Machine : Type 0 where
  pub seed : ℕ
  pub sessions : ℕ
  pub graph : Graph
  pub going : Going

-- the graph has a start node, `more` more steps can be taken, and at most `drawn` numbers were drawn
pub record HasRoom (more drawn : ℕ) (m : Machine) : Type 0 where
  pub start : 0 < length m.graph.nodes
  pub steps : length m.going.replay.schedule.steps + more ≤ most_steps
  pub draws : m.going.draws ≤ drawn
  pub lost : m.going.lost ≤ 500000000

-- the frame is of a label of the graph and of a session below this number, and its count can rise
pub record IsThere (g : Graph) (sessions : ℕ) (p : Pending) : Type 0 where
  pub label : p.label < length g.edges
  pub session : p.session < sessions
  pub count : p.count ≤ 3
