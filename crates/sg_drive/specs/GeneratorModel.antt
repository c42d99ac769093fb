-- What the generator holds, as the values of the definitions.
use Rattle.std.specs.Prelude.{◌≡◌, ℕ, ◌*◌, ◌≤◌, List, length, map}
use Rattle.sg_model.specs.Limits.{most_driven}
use Rattle.sg_protocol.specs.Graph.{Graph}
use Rattle.sg_protocol.specs.Keyring.{Program}
use Rattle.sg_protocol.specs.Schedule.{Schedule}
use Rattle.sg_sched.specs.Format.StepsHeld.{step_of}
use Rattle.sg_world.specs.Faults.{NeverFull}
use Rattle.sg_setting.specs.Replay.{Replay, without_steps}
use Rattle.sg_drive.specs.Generated.{Generated}
use Rattle.sg_drive.specs.Generated as rules
use Rattle.sg_drive.specs.Going.{Going}
use Rattle.sg_drive.specs.Machine.{Machine}
use Rattle.sg_sessions.specs.Setup.{setup}
use Rattle.sg_drive.specs.declared.drive.Driven.{Driven}
use Rattle.sg_drive.specs.declared.generator.Generator.TheInside.{Inside}
use Rattle.sg_drive.specs.declared.pending.Fate.{Fate}
use Rattle.sg_drive.specs.declared.pending.Fate.TheVariants as held

-- ---- the generator

-- what is held represents the run that is being generated
abbrev pub machine_of : Inside → Machine
machine_of m = record {
  seed = m.draws.seed;
  sessions = m.sessions;
  graph = m.graph.now;
  going = record { replay = m.world; draws = m.draws.count; pending = m.pending.items; lost = m.lost };
}

-- what is declared is the setup, the steps that are held are those that were taken, and no step began with a full record
pub record HoldsMachine (m : Inside) : Type 0 where
  pub two : 2 ≤ length m.graph.now.roles
  pub few : m.sessions ≤ most_driven
  pub declared : m.declared ≡ setup m.sessions m.graph.now
  pub taken : m.world.schedule ≡ record (setup m.sessions m.graph.now) { steps = map step_of m.steps.items }
  pub room : NeverFull m.world

-- what becomes of a frame
abbrev pub fate_held : Fate → rules.Fate
fate_held held.Delivered = rules.Delivered
fate_held held.Delayed = rules.Delayed
fate_held held.Repeated = rules.Repeated
fate_held held.Lost = rules.Lost

-- ---- what it gives

-- the schedule, the replay of it, and how many frames were lost
pub record Drive : Type 0 where
  pub schedule : Schedule
  pub replay : Replay
  pub lost : ℕ

-- the drive that is held
abbrev pub drive_of : Driven → Drive
drive_of d = record { schedule = d.schedule; replay = d.world; lost = d.lost }

-- it is the generated run, of the setup, with at most 82 steps for each session, none of which begins with a full record
pub record IsDrive (seed sessions : ℕ) (g : Graph) (programs : List Program) (d : Drive) : Type 0 where
  pub going : Going
  pub generated : Generated seed sessions g programs going
  pub replay : d.replay ≡ going.replay
  pub schedule : d.schedule ≡ going.replay.schedule
  pub lost : d.lost ≡ going.lost
  pub declared : without_steps d.schedule ≡ setup sessions g
  pub short : length d.schedule.steps ≤ 82 * sessions
  pub room : NeverFull going.replay
