use Rattle.sg_stream.proofs.reader.StreamReader.next.Goals as goal

pub returns-in-Ok-None-clause-none : goal.returns-in-Ok-None-clause-none
returns-in-Ok-None-clause-none c = let h = rw c.in-Ok-None.field-0-is at c.in-Ok-None.ensures.none in rw (← c.left.ensures) h

pub returns-in-Ok-None-clause-bad : goal.returns-in-Ok-None-clause-bad
returns-in-Ok-None-clause-bad c = let h = rw c.in-Ok-None.field-0-is at c.in-Ok-None.ensures.bad in rw (← c.left.ensures) h

pub returns-in-Err-clause-none : goal.returns-in-Err-clause-none
returns-in-Err-clause-none c = rw (← c.left.ensures) c.in-Err.ensures.none

pub returns-in-Err-clause-bad : goal.returns-in-Err-clause-bad
returns-in-Err-clause-bad c = rw (← c.left.ensures) c.in-Err.ensures.bad
