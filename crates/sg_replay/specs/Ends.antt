-- What a command on one file of a run leaves, and why it ends as it does.
use Rattle.std.specs.Prelude.{◌≡◌, ℕ, ◌⊎◌, List, [], ◌∷◌, All, Err, codes}
use Rattle.sg_protocol.specs.Graph.{Graph}
use Rattle.sg_protocol.specs.IsSchedule.{AreCompiled}
use Rattle.sg_protocol.specs.Keyring.{Program}
use Rattle.sg_protocol.specs.Schedule.{Schedule}
use Rattle.sg_protocol.specs.Texts.{real}
use Rattle.sg_parse.specs.Grammar.{SpellsGraph}
use Rattle.sg_parse.specs.Reading.{read as parsed}
use Rattle.sg_audit.specs.Sessions.{Logs}
use Rattle.sg_audit.specs.Spells.{SpellsLogs, IsFault}
use Rattle.sg_audit.specs.declared.fault.LogFault.{LogFault}
use Rattle.sg_compile.specs.Compiled.{IsWhole}
use Rattle.sg_sched.specs.Format.Kinds.{Kind}
use Rattle.sg_sched.specs.Format.Spells.{SpellsSchedule, IsFirstFault}
use Rattle.sg_ending.specs.Ending.{Ending, NoGraph, GraphRefused, WrongLine, NoMemory, TooLarge}
use Rattle.sg_ending.specs.Graphs.{IsFirstRefused}
use Rattle.sg_ending.specs.Output.{Output, Writes}
use Rattle.sg_replay.specs.Audited.{AllAnswered}
use Rattle.sg_replay.specs.Driven.{IsOverfullDrive, Sums}
use Rattle.sg_replay.specs.Faults.{ending_of_line, ending_of_logs}
use Rattle.sg_replay.specs.Replayed.{CanBeReplayed, Reports, IsOverfull}

-- ---- replay

-- the text is a report of the replay of the schedule that the bytes spell, over the programs of its graphs
pub record IsReplay (bytes text : List ℕ) : Type 0 where
  pub schedule : Schedule
  pub programs : List Program
  pub spelled : SpellsSchedule real bytes schedule
  pub can : CanBeReplayed schedule
  pub compiled : AreCompiled real schedule.graphs programs
  pub few : All IsWhole programs
  pub reports : Reports programs schedule text

-- the program ends as the first wrong line of the bytes asks
abbrev pub IsNoSchedule : List ℕ → Ending → Type 0
IsNoSchedule bytes ending = (line : ℕ) × (kind : Kind) × IsFirstFault bytes line kind × (ending ≡ ending_of_line line kind)

-- the record is full as a step of the schedule that the bytes spell begins
pub record IsTooLong (bytes : List ℕ) : Type 0 where
  pub schedule : Schedule
  pub programs : List Program
  pub spelled : SpellsSchedule real bytes schedule
  pub compiled : AreCompiled real schedule.graphs programs
  pub few : All IsWhole programs
  pub overfull : IsOverfull programs schedule

-- too much is asked for: too many steps or sessions, or a record that grows too large
abbrev pub AsksTooMuch : List ℕ → (what : List ℕ) → Type 0
AsksTooMuch bytes what = IsNoSchedule bytes (TooLarge what) ⊎ ((what ≡ codes "record") × IsTooLong bytes)

-- a replay of these bytes ends so: the report is written; else nothing is written, and the bytes are refused at their first wrong line, or a graph at its first fault, or too much is asked for, or memory ran out
abbrev pub Replays : List ℕ → (old new : Output) → Ending → Type 0
Replays bytes old new NoMemory = new ≡ old
Replays bytes old new (NoGraph fault) = (new ≡ old) × IsNoSchedule bytes (NoGraph fault)
Replays bytes old new (WrongLine line wrong) = (new ≡ old) × IsNoSchedule bytes (WrongLine line wrong)
Replays bytes old new (TooLarge what) = (new ≡ old) × AsksTooMuch bytes what
Replays bytes old new (GraphRefused g fault) = (new ≡ old) × ((s : Schedule) × SpellsSchedule real bytes s × IsFirstRefused s.graphs g fault)
Replays bytes old new ending = (text : List ℕ) × IsReplay bytes text × Writes old new text ending

-- ---- drive

-- the text is the summary of the run that is generated for `sessions` sessions of the graph that the bytes spell
pub record IsDriving (seed sessions : ℕ) (bytes text : List ℕ) : Type 0 where
  pub graph : Graph
  pub programs : List Program
  pub spelled : SpellsGraph bytes graph
  pub compiled : AreCompiled real (graph ∷ []) programs
  pub few : All IsWhole programs
  pub sums : Sums seed sessions graph programs text

-- the record is full as a step begins of the run that is generated for the graph that the bytes spell
pub record DrivesTooLong (seed sessions : ℕ) (bytes : List ℕ) : Type 0 where
  pub graph : Graph
  pub programs : List Program
  pub spelled : SpellsGraph bytes graph
  pub compiled : AreCompiled real (graph ∷ []) programs
  pub few : All IsWhole programs
  pub overfull : IsOverfullDrive seed sessions graph programs

-- a drive of these bytes ends so: the summary is written; else nothing is written, and the bytes are refused at their first wrong token, or their graph at its first fault, or the record grows too large, or memory ran out
abbrev pub Drives : (seed sessions : ℕ) → List ℕ → (old new : Output) → Ending → Type 0
Drives seed sessions bytes old new NoMemory = new ≡ old
Drives seed sessions bytes old new (NoGraph fault) = (new ≡ old) × (parsed bytes ≡ Err fault)
Drives seed sessions bytes old new (GraphRefused g fault) = (new ≡ old) × SpellsGraph bytes g × IsFirstRefused (g ∷ []) g fault
Drives seed sessions bytes old new (TooLarge what) = (new ≡ old) × (what ≡ codes "record") × DrivesTooLong seed sessions bytes
Drives seed sessions bytes old new ending = (text : List ℕ) × IsDriving seed sessions bytes text × Writes old new text ending

-- ---- audit

-- the text answers for each session of the logs that the bytes spell, whose graph is accepted
pub record IsAudit (bytes text : List ℕ) : Type 0 where
  pub logs : Logs
  pub programs : List Program
  pub spelled : SpellsLogs bytes logs
  pub compiled : AreCompiled real (logs.graph ∷ []) programs
  pub few : All IsWhole programs
  pub answers : AllAnswered logs.graph logs.sessions text

-- the program ends as a fault asks that is the first of the bytes
abbrev pub IsNoLogs : List ℕ → Ending → Type 0
IsNoLogs bytes ending = (fault : LogFault) × IsFault bytes fault × (ending ≡ ending_of_logs fault)

-- an audit of these bytes ends so: the answers are written; else nothing is written, and the bytes are refused by their first fault, or the graph of the logs at its first fault, or memory ran out
abbrev pub Audits : List ℕ → (old new : Output) → Ending → Type 0
Audits bytes old new NoMemory = new ≡ old
Audits bytes old new (NoGraph fault) = (new ≡ old) × IsNoLogs bytes (NoGraph fault)
Audits bytes old new (WrongLine line wrong) = (new ≡ old) × IsNoLogs bytes (WrongLine line wrong)
Audits bytes old new (TooLarge what) = (new ≡ old) × IsNoLogs bytes (TooLarge what)
Audits bytes old new (GraphRefused g fault) = (new ≡ old) × ((l : Logs) × SpellsLogs bytes l × (l.graph ≡ g) × IsFirstRefused (g ∷ []) g fault)
Audits bytes old new ending = (text : List ℕ) × IsAudit bytes text × Writes old new text ending
