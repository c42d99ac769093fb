-- What is left of the replay of a schedule over the programs of its graphs.
use Rattle.std.specs.Prelude.{◌≡◌, ℕ, ◌<◌, true, List, length, codes, All, ⊤}
use Rattle.std.specs.List.{list_all}
use Rattle.sg_protocol.specs.Keyring.{Program}
use Rattle.sg_protocol.specs.Past.{JoinedOnce}
use Rattle.sg_protocol.specs.Schedule.{Schedule}
use Rattle.sg_protocol.specs.Steps.{is_taken}
use Rattle.sg_sched_text.specs.Meant.{IsMeant}
use Rattle.sg_report.specs.Report.{IsReport}
use Rattle.sg_world.specs.Account.{account}
use Rattle.sg_world.specs.Faults.{IsFull, NeverFull}
use Rattle.sg_world.specs.Laws.{RunLaws}
use Rattle.sg_setting.specs.Replay.{Replay, run_of, up_to}
use Rattle.sg_ending.specs.Ending.{Ending, NoMemory, TooLarge}

-- the replay of all steps
abbrev pub replay_of : List Program → Schedule → Replay
replay_of programs s = record { programs = programs; schedule = s }

-- a schedule that can be replayed: it is one as the protocol has them, whose steps can be taken, each of them a craft or an honest principal's
pub record CanBeReplayed (s : Schedule) : Type 0 where
  pub meant : IsMeant s
  pub honest : list_all (is_taken s) s.steps ≡ true

-- the record is full as a step begins
pub record IsOverfull (programs : List Program) (s : Schedule) : Type 0 where
  pub before : ℕ
  pub begins : before < length s.steps
  pub full : IsFull (up_to before (replay_of programs s))

-- the text is a report of the replay, whose record is full as no step begins; no honest principal joins a session twice as the same role; and
-- what holds of runs holds of this one: who sent what was received, what frames show, and what awaited frames come to
pub record Reports (programs : List Program) (s : Schedule) (text : List ℕ) : Type 0 where
  pub room : NeverFull (replay_of programs s)
  pub report : IsReport (account (replay_of programs s)) text
  pub once : All JoinedOnce (run_of (replay_of programs s)).pasts
  pub laws : RunLaws (replay_of programs s)

-- a step is not taken: the record is full, or memory ran out
abbrev pub HasNoRoom : Replay → Ending → Type 0
HasNoRoom r (TooLarge what) = (what ≡ codes "record") × IsFull r
HasNoRoom r NoMemory = ⊤
HasNoRoom r ending = ⊥

-- the replay goes no further: its record is full as a step begins, or memory ran out
abbrev pub Stops : List Program → Schedule → Ending → Type 0
Stops programs s (TooLarge what) = (what ≡ codes "record") × IsOverfull programs s
Stops programs s NoMemory = ⊤
Stops programs s ending = ⊥
