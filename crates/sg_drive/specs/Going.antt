-- A run that is being generated.
use Rattle.std.specs.Prelude.{ℕ, ◌+◌, List, [], ◌++◌, remove, Option}
use Rattle.sg_model.specs.Last.{last}
use Rattle.sg_protocol.specs.Graph.{Graph}
use Rattle.sg_protocol.specs.Keyring.{Program}
use Rattle.sg_protocol.specs.Schedule.{Step}
use Rattle.sg_report.specs.Reported.{Reported, reported_log}
use Rattle.sg_setting.specs.Replay.{Replay, run_of, with_taken}
use Rattle.sg_sessions.specs.Setup.{setup}

-- a frame that is on its way: its number, the index of its session, the label along which it was sent, and how often it went to the list's end again
pub record Pending : Type 0 where
  pub frame : ℕ
  pub session : ℕ
  pub label : ℕ
  pub count : ℕ

-- the steps so far, as a replay; how many numbers were drawn; the pending frames, in the order of their list; and how many were lost
pub record Going : Type 0 where
  pub replay : Replay
  pub draws : ℕ
  pub pending : List Pending
  pub lost : ℕ

-- no step was taken, and nothing drawn
abbrev pub beginning : (sessions : ℕ) → Graph → List Program → Going
beginning sessions g programs = record { replay = record { programs = programs; schedule = setup sessions g }; draws = 0; pending = []; lost = 0 }

-- one more step
abbrev pub taking : Step → Going → Going
taking step x = record x { replay = with_taken x.replay step }

-- n more draws
abbrev pub drawing : ℕ → Going → Going
drawing n x = record x { draws = x.draws + n }

-- these frames more, at the list's end
abbrev pub adding : List Pending → Going → Going
adding frames x = record x { pending = x.pending ++ frames }

-- the list without the frame at an index
abbrev pub without : (index : ℕ) → Going → Going
without index x = record x { pending = remove x.pending index }

-- the outcome of the last step, by the run of all
abbrev pub reported_last : Going → Option Reported
reported_last x = last (reported_log (run_of x.replay).log)
