-- A replay by its parts: what is declared, a node for each honest principal, and the record.
use Rattle.std.specs.Prelude.{◌≡◌, ◌≤◌, true, List, length, map}
use Rattle.std.specs.List.{AllByRecursion, list_all}
use Rattle.sg_model.specs.Names.{Name}
use Rattle.sg_model.specs.Limits.{most_steps}
use Rattle.sg_protocol.specs.IsSchedule.{AreCompiled, IsSchedule}
use Rattle.sg_protocol.specs.NodeStates.{NodeState}
use Rattle.sg_protocol.specs.Run.{run}
use Rattle.sg_protocol.specs.Schedule.{Schedule}
use Rattle.sg_protocol.specs.Steps.{is_taken}
use Rattle.sg_protocol.specs.Texts.{real}
use Rattle.sg_world.specs.RecordModel.{Recorded, HoldsRun}
use Rattle.sg_world.specs.StepResults.{IsNamed}
use Rattle.sg_setting.specs.Setting.{Setting}

-- the schedule so far. The honest principals are those that have a node
abbrev pub schedule_of : Setting → List (Name × NodeState) → Recorded → Schedule
schedule_of d nodes r = record {
  graphs = d.graphs;
  honest = map (λ (n : Name × NodeState). n.0) nodes;
  keys = d.keys;
  sessions = d.sessions;
  steps = map (λ e. e.step) r.entries;
}

-- the programs are those of the graphs, and the nodes and the record are those of the run of the steps so far, each of which was a craft or an honest principal's and names what is declared
pub record Holds (d : Setting) (nodes : List (Name × NodeState)) (r : Recorded) : Type 0 where
  pub schedule : IsSchedule real (schedule_of d nodes r)
  pub compiled : AreCompiled real d.graphs d.programs
  pub taken : list_all (is_taken (schedule_of d nodes r)) (schedule_of d nodes r).steps ≡ true
  pub named : AllByRecursion (λ e. IsNamed (length d.sessions) e.step) r.entries
  pub few : length r.entries ≤ most_steps
  pub run : HoldsRun d.programs (schedule_of d nodes r) (run real d.programs (schedule_of d nodes r)) nodes r
