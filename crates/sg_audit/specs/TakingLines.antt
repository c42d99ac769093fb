-- What the program holds of a log file that is read, as the values of the definitions.
use Rattle.std.specs.Prelude.{◌≡◌, ◌<◌, ℕ, IfSome, map, Option, option_map, Result, Ok, Err, OnOk, IfErr, ⊤}
use Rattle.sg_base.specs.declared.value.Value.{Value as Held}
use Rattle.sg_model.specs.Values.{Value}
use Rattle.sg_walk.specs.Model.{values_of, writes_of, steps_of}
use Rattle.sg_audit.specs.Model.{log_of}
use Rattle.sg_audit.specs.LineContents.{Assignments, StepContent, LogContent, SessionLine, LogHeadLine, EventLine, WalkLine}
use Rattle.sg_audit.specs.SoFar.{SoFar, Added}
use Rattle.sg_audit.specs.Sessions.{Session, Logs}
use Rattle.sg_audit.specs.Spells.{Fault, WrongLine, NoGraph}
use Rattle.sg_audit.specs.declared.assignments.Assignments.{Assignments as TakenAssignments}
use Rattle.sg_audit.specs.declared.line.LogLine.{LogLine}
use Rattle.sg_audit.specs.declared.line.LogLine.TheVariants.{Session as ALine, Log, Event, Walk}
use Rattle.sg_audit.specs.declared.step.LogStep.{LogStep}
use Rattle.sg_audit.specs.declared.session.SessionLog.{SessionLog}
use Rattle.sg_audit.specs.declared.session.Logs.{Logs as Held'}
use Rattle.sg_audit.specs.declared.fault.Mistake.TheVariants.{Form as FormKind, Unknown as UnknownKind, Twice as TwiceKind, TooManyEvents as TooManyKind}
use Rattle.sg_audit.specs.declared.fault.Stop.{Stop}
use Rattle.sg_audit.specs.declared.fault.Stop.TheVariants.{Wrong, OutOfMemory as NoMemory}
use Rattle.sg_audit.specs.declared.fault.LogFault.{LogFault}
use Rattle.sg_audit.specs.declared.fault.LogFault.TheVariants.{Form, Unknown, Twice, Graph, TooManyEvents, OutOfMemory}

-- the values that are held
abbrev pub assigned_values : TakenAssignments Held → Assignments Value
assigned_values v = record { pairs = values_of v.pairs; known = v.known }

-- the values that are held, some hidden
abbrev pub assigned_writes : TakenAssignments (Option Held) → Assignments (Option Value)
assigned_writes v = record { pairs = writes_of v.pairs; known = v.known }

-- a step that is held
abbrev pub step_in_line : LogStep → StepContent
step_in_line s = record { label = s.label; writes = assigned_writes s.writes }

-- what a line that is held says
abbrev pub statement : LogLine → LogContent
statement (ALine n) = SessionLine n
statement (Log role) = LogHeadLine role
statement (Event sent label time values) = EventLine sent label time (assigned_values values)
statement (Walk steps) = WalkLine (map step_in_line steps)

-- a role is less than 16
abbrev pub Fits : LogLine → Type 0
Fits (Log role) = IfSome role (λ r. r < 16)
Fits other = ⊤

-- a session that is held
abbrev pub session_of : SessionLog → Session
session_of s = record { name = s.name; logs = map log_of s.logs; walk = option_map steps_of s.walk }

-- the logs that are held
abbrev pub logs_held : Held' → Logs
logs_held l = record { graph = l.graph; sessions = map session_of l.sessions }

-- the line is wrong as the definition says, or memory ran out
abbrev pub IsStop : Added → Stop → Type 0
IsStop added (Wrong kind) = added ≡ Err kind
IsStop added NoMemory = ⊤

-- the line is taken as the definition says, or it is not
pub record Takes {A : Type 0} (added : Added) (new : SoFar) (result : Result A Stop) : Type 0 where
  pub taken : OnOk result (added ≡ Ok new)
  pub stopped : IfErr result (IsStop added)

-- the definition has this fault, or memory ran out
abbrev pub Refuses : Result Logs Fault → LogFault → Type 0
Refuses read (Form n) = read ≡ Err (WrongLine n FormKind)
Refuses read (Unknown n) = read ≡ Err (WrongLine n UnknownKind)
Refuses read (Twice n) = read ≡ Err (WrongLine n TwiceKind)
Refuses read (Graph fault) = read ≡ Err (NoGraph fault)
Refuses read TooManyEvents = (n : ℕ) × (read ≡ Err (WrongLine n TooManyKind))
Refuses read OutOfMemory = ⊤

-- the fault of line n that is not taken
abbrev pub fault_at : ℕ → Stop → LogFault
fault_at n (Wrong FormKind) = Form n
fault_at n (Wrong UnknownKind) = Unknown n
fault_at n (Wrong TwiceKind) = Twice n
fault_at n (Wrong TooManyKind) = TooManyEvents
fault_at n NoMemory = OutOfMemory
