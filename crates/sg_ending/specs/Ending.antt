-- How the program ends, with which status, and what it says of it on standard error.
use Rattle.std.specs.Prelude.{ℕ, ◌==◌, nat_lt, ◌||◌, if◌then◌else◌, List, [], ◌∷◌, ◌++◌, codes, flat_map}
use Rattle.std.specs.Fmt.{decimal}
use Rattle.sg_protocol.specs.Graph.{Graph}
use Rattle.sg_claims_text.specs.FaultText.{fault_text as claims_text}
use Rattle.sg_claims_text.specs.declared.fault.ClaimsFault.{ClaimsFault}
use Rattle.sg_parse.specs.declared.fault.ParseFault.{ParseFault}
use Rattle.sg_compose.specs.declared.fault.ComposeFault.{ComposeFault}
use Rattle.sg_keys.specs.declared.key_file.KeyFault.{KeyFault}
use Rattle.sg_compile.specs.declared.check.CompileFault.{CompileFault}
use Rattle.sg_script.specs.declared.fault.ScriptFault.{ScriptFault}
use Rattle.sg_parse.specs.FaultText.{parse_text}
use Rattle.sg_compose.specs.FaultText.{compose_text}
use Rattle.sg_text.specs.Values.{escaped_byte}
use Rattle.sg_compile.specs.FaultText.{refusal_text}
use Rattle.sg_keys.specs.FaultText.{keys_text}
use Rattle.sg_script.specs.FaultText.{script_text}
use Rattle.sg_ending.specs.declared.ending.BadProgram.{BadProgram}
use Rattle.sg_ending.specs.declared.ending.BadProgram.TheVariants.{Malformed, NotTheTable, Twice as TwiceTaken}
use Rattle.sg_ending.specs.declared.ending.Wrong.{Wrong}
use Rattle.sg_ending.specs.declared.ending.Wrong.TheVariants.{Form, Unknown, Twice, NotHonest}

-- how the program ends
pub data Ending : Type 0 where
  -- the output is written whole
  Written : Ending
  -- the arguments are not in the table of commands
  NoCommand : Ending
  -- the bytes are no graph, or a block of them isn't
  NoGraph : ParseFault → Ending
  -- the parts are not expanded
  NoExpansion : ComposeFault → Ending
  -- the graph isn't accepted
  GraphRefused : Graph → CompileFault → Ending
  -- the graph has no role of this name
  NoRole : (role : List ℕ) → Ending
  -- this line of the schedule or of the logs is the first that is wrong
  WrongLine : (line : ℕ) → Wrong → Ending
  -- the bytes are no key file
  KeysRefused : KeyFault → Ending
  -- the bytes are no script beside the programs
  ScriptRefused : ScriptFault → Ending
  -- the bytes are no claims of the graph
  ClaimsRefused : ClaimsFault → Ending
  -- the output is written whole, and it says of a claim that it fails
  ClaimFails : Ending
  -- the program of this number, counted from 1, isn't taken
  ProgramRefused : (number : ℕ) → BadProgram → Ending
  -- the file is no ledger
  NoLedger : Ending
  -- this slot of the ledger, counted from 0, is the first that no ledger has
  BadSlot : (slot : ℕ) → Ending
  -- the file of the ledger to be made has bytes already
  LedgerNotEmpty : Ending
  -- the file could not be read
  FileFailed : (file : List ℕ) → Ending
  -- what was to be written was not taken
  WriteFailed : Ending
  -- the link failed
  LinkFailed : Ending
  -- the input failed
  InputFailed : Ending
  -- the disk failed
  DiskFailed : Ending
  -- out of memory
  NoMemory : Ending
  -- there is no such file
  NoSuchFile : (file : List ℕ) → Ending
  -- the file, or what it holds, passes a limit
  TooLarge : (what : List ℕ) → Ending

-- the status of an ending
abbrev pub status_of : Ending → ℕ
status_of Written = 0
status_of NoCommand = 2
status_of (NoGraph fault) = 3
status_of (NoExpansion fault) = 3
status_of (GraphRefused g fault) = 3
status_of (NoRole role) = 4
status_of (WrongLine line wrong) = 4
status_of (KeysRefused fault) = 4
status_of (ScriptRefused fault) = 4
status_of (ClaimsRefused fault) = 4
status_of (ProgramRefused number cause) = 4
status_of NoLedger = 4
status_of (BadSlot slot) = 4
status_of LedgerNotEmpty = 4
status_of (FileFailed file) = 5
status_of WriteFailed = 6
status_of LinkFailed = 7
status_of NoMemory = 8
status_of (NoSuchFile file) = 9
status_of (TooLarge what) = 10
status_of DiskFailed = 11
status_of ClaimFails = 13
status_of InputFailed = 14

-- what is wrong with a line
abbrev pub wrong_text : Wrong → List ℕ
wrong_text Form = codes "form"
wrong_text Unknown = codes "unknown"
wrong_text Twice = codes "twice"
wrong_text NotHonest = codes "not-honest"

-- why a program isn't taken
abbrev pub program_text : BadProgram → List ℕ
program_text (Malformed at) = codes "malformed at " ++ decimal at
program_text (NotTheTable n) = codes "entry " ++ decimal n
program_text TwiceTaken = codes "twice"

-- a byte of an argument of the command line: itself, or \x and two digits if it is a control byte, which could end the line or steer a terminal
abbrev pub shown_byte : ℕ → List ℕ
shown_byte b = if nat_lt b 0x20 || (b == 0x7F) then escaped_byte b else b ∷ []

-- an argument of the command line, as a line on standard error has it
abbrev pub shown_arg : List ℕ → List ℕ
shown_arg arg = flat_map shown_byte arg

-- the line on standard error
abbrev pub line_of : Ending → List ℕ
line_of Written = []
line_of NoCommand = codes "usage: sessiongraph check|compile|run|replay|drive|ledger|keep|stream|audit|compose|claims|serve\n"
line_of (NoGraph fault) = codes "graph refused: " ++ parse_text fault ++ 10 ∷ []
line_of (NoExpansion fault) = codes "graph refused: " ++ compose_text fault ++ 10 ∷ []
line_of (GraphRefused g fault) = codes "graph refused: " ++ refusal_text g fault ++ 10 ∷ []
line_of (NoRole role) = codes "input refused: role " ++ shown_arg role ++ 10 ∷ []
line_of (WrongLine line wrong) = codes "input refused: line " ++ decimal line ++ 32 ∷ wrong_text wrong ++ 10 ∷ []
line_of (KeysRefused fault) = codes "input refused: keys " ++ keys_text fault ++ 10 ∷ []
line_of (ScriptRefused fault) = codes "input refused: script " ++ script_text fault ++ 10 ∷ []
line_of (ClaimsRefused fault) = codes "input refused: claims " ++ claims_text fault ++ 10 ∷ []
line_of ClaimFails = []
line_of (ProgramRefused number cause) = codes "input refused: program " ++ decimal number ++ 32 ∷ program_text cause ++ 10 ∷ []
line_of NoLedger = codes "input refused: ledger not made\n"
line_of (BadSlot slot) = codes "input refused: ledger slot " ++ decimal slot ++ 10 ∷ []
line_of LedgerNotEmpty = codes "input refused: ledger not empty\n"
line_of (FileFailed file) = codes "file failed: " ++ shown_arg file ++ 10 ∷ []
line_of WriteFailed = []
line_of LinkFailed = codes "link failed\n"
line_of InputFailed = codes "input failed\n"
line_of DiskFailed = codes "disk failed\n"
line_of NoMemory = codes "out of memory\n"
line_of (NoSuchFile file) = codes "no such file: " ++ shown_arg file ++ 10 ∷ []
line_of (TooLarge what) = codes "too large: " ++ shown_arg what ++ 10 ∷ []
