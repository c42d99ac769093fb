-- The ending that the first fault of a schedule, or of logs, asks for.
use Rattle.std.specs.Prelude.{ℕ, codes}
use Rattle.sg_sched.specs.Format.Kinds as Format
use Rattle.sg_sched.specs.declared.fault.LineFault.{LineFault}
use Rattle.sg_sched.specs.declared.fault.LineFault.TheVariants.{Line, OutOfMemory}
use Rattle.sg_sched_text.specs.TakingLines.{kind_of}
use Rattle.sg_audit.specs.declared.fault.LogFault.{LogFault}
use Rattle.sg_audit.specs.declared.fault.LogFault.TheVariants.{Form as FormOfLogs, Unknown as UnknownInLogs, Twice as TwiceInLogs, Graph as GraphOfLogs, TooManyEvents, OutOfMemory as NoMemoryForLogs}
use Rattle.sg_ending.specs.Ending.{Ending, NoGraph, WrongLine, NoMemory, TooLarge}
use Rattle.sg_ending.specs.declared.ending.Wrong.TheVariants.{Form, Unknown, Twice, NotHonest}

-- what the first wrong line of a schedule ends with
abbrev pub ending_of_line : ℕ → Format.Kind → Ending
ending_of_line n Format.Form = WrongLine n Form
ending_of_line n Format.Unknown = WrongLine n Unknown
ending_of_line n Format.Twice = WrongLine n Twice
ending_of_line n Format.NotHonest = WrongLine n NotHonest
ending_of_line n (Format.Graph fault) = NoGraph fault
ending_of_line n Format.TooManySteps = TooLarge (codes "steps")
ending_of_line n Format.TooManySessions = TooLarge (codes "sessions")

-- what the reading of a schedule that is refused ends with
abbrev pub ending_of_fault : LineFault → Ending
ending_of_fault (Line n kind) = ending_of_line n (kind_of kind)
ending_of_fault OutOfMemory = NoMemory

-- what a fault of logs ends with
abbrev pub ending_of_logs : LogFault → Ending
ending_of_logs (FormOfLogs n) = WrongLine n Form
ending_of_logs (UnknownInLogs n) = WrongLine n Unknown
ending_of_logs (TwiceInLogs n) = WrongLine n Twice
ending_of_logs (GraphOfLogs fault) = NoGraph fault
ending_of_logs TooManyEvents = TooLarge (codes "events")
ending_of_logs NoMemoryForLogs = NoMemory
