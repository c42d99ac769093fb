-- The kinds of what can be wrong with a schedule.
use Rattle.sg_parse.specs.declared.fault.ParseFault.{ParseFault}

-- no form; the step 200,001; the session 100,001; a name that isn't declared; a declaration again; a step of a principal that isn't honest; a graph text that is refused
pub data Kind : Type 0 where
  Form : Kind
  TooManySteps : Kind
  TooManySessions : Kind
  Unknown : Kind
  Twice : Kind
  NotHonest : Kind
  Graph : ParseFault → Kind
