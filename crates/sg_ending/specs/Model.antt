-- What the program holds, as the values of the definitions.
use Rattle.sg_ending.specs.Ending as Ended
use Rattle.sg_ending.specs.declared.ending.Ending.{Ending}
use Rattle.sg_ending.specs.declared.ending.Ending.TheVariants.{Written, NoCommand, NoGraph, NoExpansion, GraphRefused, NoRole, WrongLine, KeysRefused, ScriptRefused, ClaimsRefused, ClaimFails, ProgramRefused, NoLedger, BadSlot, LedgerNotEmpty, FileFailed, WriteFailed, LinkFailed, InputFailed, DiskFailed, NoMemory, NoSuchFile, TooLarge}

-- the ending that is held
abbrev pub ending_held : Ending → Ended.Ending
ending_held Written = Ended.Written
ending_held NoCommand = Ended.NoCommand
ending_held (NoGraph fault) = Ended.NoGraph fault
ending_held (NoExpansion fault) = Ended.NoExpansion fault
ending_held (GraphRefused graph fault) = Ended.GraphRefused graph fault
ending_held (NoRole role) = Ended.NoRole role.now
ending_held (WrongLine line wrong) = Ended.WrongLine line wrong
ending_held (KeysRefused fault) = Ended.KeysRefused fault
ending_held (ScriptRefused fault) = Ended.ScriptRefused fault
ending_held (ClaimsRefused fault) = Ended.ClaimsRefused fault
ending_held ClaimFails = Ended.ClaimFails
ending_held (ProgramRefused number cause) = Ended.ProgramRefused number cause
ending_held NoLedger = Ended.NoLedger
ending_held (BadSlot slot) = Ended.BadSlot slot
ending_held LedgerNotEmpty = Ended.LedgerNotEmpty
ending_held (FileFailed file) = Ended.FileFailed file.now
ending_held WriteFailed = Ended.WriteFailed
ending_held LinkFailed = Ended.LinkFailed
ending_held InputFailed = Ended.InputFailed
ending_held DiskFailed = Ended.DiskFailed
ending_held NoMemory = Ended.NoMemory
ending_held (NoSuchFile file) = Ended.NoSuchFile file.now
ending_held (TooLarge what) = Ended.TooLarge what.now
