-- What clauses see of a replay: the programs, and the schedule with the steps that were taken so far. Its run is the core's.
use Rattle.std.specs.Prelude.{ℕ, ◌+◌, List, [], length}
use Rattle.sg_protocol.specs.Beginnings.{first_steps}
use Rattle.sg_protocol.specs.Keyring.{Program}
use Rattle.sg_protocol.specs.Schedule.{Step, Schedule}
use Rattle.sg_protocol.specs.Steps.{with_step, record_size}
use Rattle.sg_protocol.specs.Texts.{real}
use Rattle.sg_protocol.specs.World.{World}
use Rattle.sg_protocol.specs.Run.{run, world_after}

-- a replay
pub record Replay : Type 0 where
  pub programs : List Program
  pub schedule : Schedule

-- the schedule's declarations, no step taken
abbrev pub without_steps : Schedule → Schedule
without_steps s = record s { steps = [] }

-- the replay with one more step
abbrev pub with_taken : Replay → Step → Replay
with_taken r x = record r { schedule = with_step r.schedule x }

-- the replay of the first n steps
abbrev pub up_to : ℕ → Replay → Replay
up_to n r = record r { schedule = first_steps n r.schedule }

-- the run of the steps that were taken
abbrev pub run_of : Replay → World
run_of r = run real r.programs r.schedule

-- the number of the next step, counted from 1
abbrev pub next_number : Replay → ℕ
next_number r = length r.schedule.steps + 1

-- the world after the definition's next step
abbrev pub stepped : Replay → Step → World
stepped r x = world_after real r.schedule (run_of r) (next_number r) x

-- how many bytes the record holds
abbrev pub size_of : Replay → ℕ
size_of r = record_size r.schedule (run_of r)
