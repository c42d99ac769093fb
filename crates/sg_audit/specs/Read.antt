-- How lines are read one by one: the inner definition that the code is proved against. What it reads is what `Spells` says.
use Rattle.std.specs.Prelude.{ℕ, ◌+◌, ◌==◌, Bool, false, not, ◌&&◌, if◌then◌else◌, List, [], ◌∷◌, ◌++◌, length, codes, bytes_eq, Option, Some, None, option_map, Result, Ok, Err, is_err}
use Rattle.std.specs.Option.{option_map_or}
use Rattle.sg_protocol.specs.Graph.{Graph}
use Rattle.sg_parse.specs.Reading.{read as parsed, read_beginning}
use Rattle.sg_parse.specs.Tokens.{tokens}
use Rattle.sg_parse.specs.declared.fault.ParseFault.{ParseFault}
use Rattle.sg_sched.specs.Text.{lines, content, words}
use Rattle.sg_sched.specs.Format.Forms.{is_skipped}
use Rattle.sg_sched.specs.Format.LineContents.{Word}
use Rattle.sg_sched.specs.Format.Spells.{Line, closes}
use Rattle.sg_audit.specs.Reading.{form}
use Rattle.sg_audit.specs.SoFar.{SoFar, Added, nothing, add, all_sessions, is_whole}
use Rattle.sg_audit.specs.Sessions.{Logs}
use Rattle.sg_audit.specs.Spells.{Fault, WrongLine, NoGraph}
use Rattle.sg_audit.specs.declared.fault.Mistake.TheVariants.{Form}

-- the lines that are left, and the number of those before them
pub record LinesLeft : Type 0 where
  pub lines : List Line
  pub number : ℕ

-- what a line adds: nothing if it is skipped
unfoldable pub add_line : Graph → SoFar → Line → Added
add_line g d line = if is_skipped line then Ok d else option_map_or (add g d) (form g (words (content line))) (Err Form)

-- ---- sessions

-- goes on after line n, if that is not wrong
abbrev pub unless_wrong : {A : Type 0} → ℕ → Added → (SoFar → Result A Fault) → Result A Fault
unless_wrong n (Ok d) next = next d
unless_wrong n (Err kind) next = Err (WrongLine n kind)

-- the logs of what was said and of the lines from number n on. If they end too early, the line that is missing is wrong
abbrev pub read_sessions : Graph → ℕ → SoFar → List Line → Result Logs Fault
read_sessions g n d [] = if is_whole g d then Ok (record { graph = g; sessions = all_sessions d }) else Err (WrongLine n Form)
read_sessions g n d (l ∷ ls) = unless_wrong n (add_line g d l) (λ d'. read_sessions g (n + 1) d' ls)

-- ---- the graph

-- the words `graph` and `{`
abbrev pub are_opening : List Word → Bool
are_opening [] = false
are_opening (a ∷ []) = false
are_opening (a ∷ b ∷ ws) = bytes_eq a (codes "graph") && bytes_eq b (codes "{") && length ws == 0

-- the line `graph {`
unfoldable pub opens : Line → Bool
opens line = are_opening (words (content line))

-- the text of the block, after the line `graph {`, if it is closed
abbrev pub block_text : List Line → Option (List ℕ)
block_text [] = None
block_text (l ∷ ls) = if closes l then Some [] else option_map (λ text. l ++ text) (block_text ls)

-- the text of the block with which the lines begin, if `graph {` is the first that isn't skipped, and the block is closed
abbrev pub first_block : List Line → Option (List ℕ)
first_block [] = None
first_block (l ∷ ls) = if is_skipped l then first_block ls else if opens l then block_text ls else None

-- there is a text, and it begins with a graph's name and a role
abbrev pub begins_graph : Option (List ℕ) → Bool
begins_graph None = false
begins_graph (Some text) = not (is_err (read_beginning (tokens text)))

-- the lines begin with a block whose text begins so
abbrev pub begins_block : List Line → Bool
begins_block ls = begins_graph (first_block ls)

-- the sessions after the graph that the text spells, if it spells one
abbrev pub with_graph : Result Graph ParseFault → ℕ → List Line → Result Logs Fault
with_graph (Ok g) n ls = read_sessions g n nothing ls
with_graph (Err e) n ls = Err (NoGraph e)

-- the logs of a graph text so far, in a block that line n - 1 is the last one of so far, and of the lines from number n on. A block that isn't closed is wrong at its last line
abbrev pub read_block : ℕ → List ℕ → List Line → Result Logs Fault
read_block n text [] = Err (WrongLine n Form)
read_block n text (l ∷ ls) = if closes l then with_graph (parsed text) (n + 1 + 1) ls else read_block (n + 1) (text ++ l) ls

-- the logs of the lines from number n on, before the graph
abbrev pub read_lines : ℕ → List Line → Result Logs Fault
read_lines n [] = Err (WrongLine n Form)
read_lines n (l ∷ ls) = if is_skipped l then read_lines (n + 1) ls else if opens l then read_block n [] ls else Err (WrongLine n Form)

-- what bytes spell. Each line has a number, the first one 1
unfoldable pub read : List ℕ → Result Logs Fault
read bytes = read_lines 1 (lines bytes)
