-- What each line of the input does, and what is given to the outside.
use Rattle.std.specs.Prelude.{ℕ, ◌+◌, ◌-◌, ◌^◌, Bool, true, false, if◌then◌else◌, List, [], ◌∷◌, ◌++◌, take, is_some}
use Rattle.std.specs.Option.{option_map_or}
use Rattle.sg_answers.specs.Answers.{wrong_text, failed_text, unsent_text}
use Rattle.sg_answers.specs.declared.line.Wrong.TheVariants.{Form}
use Rattle.sg_base.specs.declared.address.Addr.{Addr}
use Rattle.sg_input.specs.Lines.{Line, Whole, TooLong}
use Rattle.sg_play.specs.Steps.{Step}
use Rattle.sg_request.specs.Request.{request_of}
use Rattle.sg_request.specs.declared.request.Request.{Request}
use Rattle.sg_request.specs.declared.request.Request.TheVariants.{Receive, Quit}
use Rattle.sg_wait.specs.Waiting.{received}
use Rattle.sg_wait.specs.declared.coming.Coming.{Coming}
use Rattle.sg_serve.specs.Serving.{Serving, Reply, says, takes, replies}

-- how far a run has come: the state, what is to come on the link, the answers so far with the frames that went out, and how often the link failed
pub record Run : Type 0 where
  pub serving : Serving
  pub coming : List Coming
  pub answers : List Step
  pub failures : ℕ

-- ---- an answer

-- a line whose frames were not taken
abbrev pub unsent_line : (frames : List (Addr × List ℕ)) → (line : List ℕ) → List ℕ
unsent_line [] line = line
unsent_line (f ∷ fs) line = unsent_text line

-- what is given of an answer, if the link takes its frame and if it doesn't
abbrev pub given : (took : Bool) → Step → Step
given true step = step
given false step = record { line = unsent_line step.frames step.line; frames = [] }

-- one failure more, if the link doesn't do what it is asked
abbrev pub failures_after : (took : Bool) → ℕ → ℕ
failures_after true n = n
failures_after false n = n + 1

-- it is given
abbrev pub gives : (took : Bool) → Run → Reply → Run
gives took r reply = record r { serving = reply.0; answers = r.answers ++ given took reply.1 ∷ []; failures = failures_after took r.failures }

-- ---- a line

-- what a wait for the next delivery comes to, with a limit of time or without one, if the link gives it and if it fails
abbrev pub receipt : (took limited : Bool) → Run → Run × Reply
receipt true limited r = let x = received limited r.coming in (record r { coming = x.1 }, takes r.serving x.0)
receipt false limited r = (r, says r.serving failed_text)

-- it is answered
abbrev pub receives : (took limited : Bool) → Run → Run
receives took limited r = gives took (receipt took limited r).0 (receipt took limited r).1

-- a request is answered
abbrev pub asked : (took : Bool) → Run → Request → Run
asked took r (Receive within) = receives took (is_some within) r
asked took r other = gives took r (replies r.serving other)

-- a line is answered. `took` says whether the link does what it is asked
abbrev pub with_line : (took : Bool) → Run → Line → Run
with_line took r TooLong = gives took r (says r.serving (wrong_text Form))
with_line took r (Whole bytes) = option_map_or (asked took r) (request_of bytes) (gives took r (says r.serving (wrong_text Form)))

-- ---- lines

-- lines are answered in order, each with whether the link does what it is asked
abbrev pub with_lines : Run → List (Line × Bool) → Run
with_lines r [] = r
with_lines r (x ∷ xs) = with_lines (with_line x.1 r x.0) xs

-- a request is that for the end
abbrev pub is_quit : Request → Bool
is_quit Quit = true
is_quit other = false

-- a line asks for the end
abbrev pub asks_quit : Line → Bool
asks_quit TooLong = false
asks_quit (Whole bytes) = option_map_or is_quit (request_of bytes) false

-- the lines up to that one
abbrev pub before_quit : List Line → List Line
before_quit [] = []
before_quit (l ∷ ls) = if asks_quit l then [] else (l ∷ before_quit ls)

-- no more lines are answered: 18,446,744,073,709,551,615
abbrev pub most_lines : ℕ
most_lines = 2 ^ 64 - 1

-- the lines that are answered: up to that one, and no more than these
abbrev pub until_quit : List Line → List Line
until_quit lines = before_quit (take most_lines lines)
