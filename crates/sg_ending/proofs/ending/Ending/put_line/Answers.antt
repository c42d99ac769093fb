use Rattle.std.proofs.Common.{[], ◌∷◌, ◌++◌, codes, append_assoc}
use Rattle.std.specs.Fmt.{decimal}
use Rattle.sg_ending.specs.Ending.{wrong_text, program_text}
use Rattle.sg_ending.proofs.ending.Ending.put_line.Goals as goal

pub returns-in-WrongLine-clause-value : goal.returns-in-WrongLine-clause-value
returns-in-WrongLine-clause-value c = rw (c.in-WrongLine.is, append_assoc (codes "input refused: line " ++ decimal c.in-WrongLine.line) (32 ∷ wrong_text c.in-WrongLine.wrong) (10 ∷ [])) c.writeln-in-WrongLine.ensures.ok

pub returns-in-KeysRefused-clause-value : goal.returns-in-KeysRefused-clause-value
returns-in-KeysRefused-clause-value c = rw c.in-KeysRefused.is c.writeln-in-KeysRefused.ensures.ok

pub returns-in-ScriptRefused-clause-value : goal.returns-in-ScriptRefused-clause-value
returns-in-ScriptRefused-clause-value c = rw c.in-ScriptRefused.is c.writeln-in-ScriptRefused.ensures.ok

pub returns-in-ProgramRefused-clause-value : goal.returns-in-ProgramRefused-clause-value
returns-in-ProgramRefused-clause-value c = rw (c.in-ProgramRefused.is, append_assoc (codes "input refused: program " ++ decimal c.in-ProgramRefused.number) (32 ∷ program_text c.in-ProgramRefused.cause) (10 ∷ [])) c.writeln-in-ProgramRefused.ensures.ok

pub returns-in-BadSlot-clause-value : goal.returns-in-BadSlot-clause-value
returns-in-BadSlot-clause-value c = rw c.in-BadSlot.is c.writeln-in-BadSlot.ensures.ok
