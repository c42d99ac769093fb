-- The logs that bytes spell, and the first wrong line of bytes that spell none.
use Rattle.std.specs.Prelude.{◌≡◌, ℕ, ◌+◌, not, List, [], ◌∷◌, ◌++◌, length, codes, IsTrue, IsFalse, Some, None, Err}
use Rattle.std.specs.List.{list_all, concat}
use Rattle.sg_protocol.specs.Graph.{Graph as AGraph}
use Rattle.sg_parse.specs.Grammar.{SpellsGraph}
use Rattle.sg_parse.specs.Reading.{read}
use Rattle.sg_parse.specs.declared.fault.ParseFault.{ParseFault}
use Rattle.sg_sched.specs.Text.{lines, content, words}
use Rattle.sg_sched.specs.Format.Forms.{is_skipped}
use Rattle.sg_sched.specs.Format.Spells.{Line, closes}
use Rattle.sg_audit.specs.LineContents.{LogContent}
use Rattle.sg_audit.specs.Written.{Says}
use Rattle.sg_audit.specs.Sessions.{Logs, LogsSoFar, sessions_of, added}
use Rattle.sg_audit.specs.Faults.{fault, is_whole}
use Rattle.sg_audit.specs.declared.fault.Mistake.{Mistake}
use Rattle.sg_audit.specs.declared.fault.Mistake.TheVariants.{Form, Unknown, Twice, TooManyEvents}
use Rattle.sg_audit.specs.declared.fault.LogFault.{LogFault}
use Rattle.sg_audit.specs.declared.fault.LogFault.TheVariants.{Form as FormAt, Unknown as UnknownAt, Twice as TwiceAt, Graph as InGraph, TooManyEvents as TooMany}

-- ---- the graph

-- lines that are skipped, the line `graph {`, and lines that don't close the block
pub record IsOpened (ls : List Line) (inner : List Line) : Type 0 where
  pub before : List Line
  pub opening : Line
  pub all : ls ≡ before ++ opening ∷ inner
  pub skipped : IsTrue (list_all is_skipped before)
  pub opens : words (content opening) ≡ codes "graph" ∷ codes "{" ∷ []
  pub open_yet : IsTrue (list_all (λ l. not (closes l)) inner)

-- these lines are skipped ones and a block, and the bytes and line ends of the block as they stand are its text
pub record IsBlock (ls : List Line) (text : List ℕ) : Type 0 where
  pub prefix : List Line
  pub inner : List Line
  pub closing : Line
  pub all : ls ≡ prefix ++ closing ∷ []
  pub opened : IsOpened prefix inner
  pub closed : IsTrue (closes closing)
  pub within : text ≡ concat inner

-- ---- the sessions

-- the words of the line say this of the graph
abbrev pub SaysLine : AGraph → Line → LogContent → Type 0
SaysLine g line statement = Says g (words (content line)) statement

-- the lines after the block, from the first one on, say this, and none of them is wrong
pub data AreLogsOf (g : AGraph) : List Line → LogsSoFar → Type 0 where
  Nothing : AreLogsOf g [] (record { over = []; last = None })
  Skip : {ls : List Line} {t : LogsSoFar} (line : Line) → AreLogsOf g ls t → IsTrue (is_skipped line) → AreLogsOf g (ls ++ line ∷ []) t
  Say : {ls : List Line} {t : LogsSoFar} (line : Line) (statement : LogContent) → AreLogsOf g ls t → IsFalse (is_skipped line) → SaysLine g line statement → fault g t statement ≡ None → AreLogsOf g (ls ++ line ∷ []) (added t statement)

-- after the block of a graph, these lines say this
pub record AreLogsAfterBlock (g : AGraph) (ls : List Line) (t : LogsSoFar) : Type 0 where
  pub block : List Line
  pub text : List ℕ
  pub behind : List Line
  pub all : ls ≡ block ++ behind
  pub is_block : IsBlock block text
  pub spelled : SpellsGraph text g
  pub logs : AreLogsOf g behind t

-- the bytes are the logs: they give the sessions, and the last one may end
pub record SpellsLogs (bytes : List ℕ) (l : Logs) : Type 0 where
  pub so_far : LogsSoFar
  pub logs : AreLogsAfterBlock l.graph (lines bytes) so_far
  pub whole : IsTrue (is_whole l.graph so_far)
  pub sessions : l.sessions ≡ sessions_of so_far

-- ---- wrong lines

-- a line, counted from 1, and what is wrong with it; or what is wrong with the graph text
pub data Fault : Type 0 where
  WrongLine : (line : ℕ) → Mistake → Fault
  NoGraph : ParseFault → Fault

-- the first of these lines that is wrong. If a line is missing, the number after the last one is reported, and if the block isn't closed, that of the last line
pub data IsFirstFault (ls : List Line) : Fault → Type 0 where
  NoLine : IsTrue (list_all is_skipped ls) → IsFirstFault ls (WrongLine (length ls + 1) Form)
  NoBlock : (before rest : List Line) (line : Line) → ls ≡ before ++ line ∷ rest → IsTrue (list_all is_skipped before) → IsFalse (is_skipped line)
      → (words (content line) ≡ codes "graph" ∷ codes "{" ∷ [] → ⊥) → IsFirstFault ls (WrongLine (length before + 1) Form)
  NotClosed : (inner : List Line) → IsOpened ls inner → IsFirstFault ls (WrongLine (length ls) Form)
  OfGraph : (block rest : List Line) (text : List ℕ) {e : ParseFault} → ls ≡ block ++ rest → IsBlock block text → read text ≡ Err e → IsFirstFault ls (NoGraph e)
  OfNoForm : (g : AGraph) (t : LogsSoFar) (right rest : List Line) (line : Line) → ls ≡ right ++ line ∷ rest → AreLogsAfterBlock g right t → IsFalse (is_skipped line)
      → ((statement : LogContent) → SaysLine g line statement → ⊥) → IsFirstFault ls (WrongLine (length right + 1) Form)
  OfAForm : (g : AGraph) (t : LogsSoFar) (right rest : List Line) (line : Line) (statement : LogContent) {kind : Mistake} → ls ≡ right ++ line ∷ rest → AreLogsAfterBlock g right t → IsFalse (is_skipped line)
      → SaysLine g line statement → fault g t statement ≡ Some kind → IsFirstFault ls (WrongLine (length right + 1) kind)
  TooFew : (g : AGraph) (t : LogsSoFar) → AreLogsAfterBlock g ls t → IsFalse (is_whole g t) → IsFirstFault ls (WrongLine (length ls + 1) Form)

-- a fault as the program reports it: the event 100,001 without its line
abbrev pub reported_as : Fault → LogFault
reported_as (WrongLine n Form) = FormAt n
reported_as (WrongLine n Unknown) = UnknownAt n
reported_as (WrongLine n Twice) = TwiceAt n
reported_as (WrongLine n TooManyEvents) = TooMany
reported_as (NoGraph fault) = InGraph fault

-- the program reports the first fault of the bytes
pub record IsFault (bytes : List ℕ) (e : LogFault) : Type 0 where
  pub fault : Fault
  pub first : IsFirstFault (lines bytes) fault
  pub reported : e ≡ reported_as fault
