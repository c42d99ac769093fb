-- A run, a step at a time, and how much it records.
use Rattle.std.specs.Prelude.{◌≡◌, ℕ, suc, ◌+◌, ◌<◌, ◌≤◌, Bool, true, List, [], ◌∷◌, ◌++◌, map, filter_map, length, sum_by, Option, Some, None, ⊤}
use Rattle.std.specs.List.{list_all, AllByRecursion}
use Rattle.std.specs.Option.{option_map_or}
use Rattle.sg_model.specs.Lists.{range_from}
use Rattle.sg_model.specs.Limits.{most_added_bytes}
use Rattle.sg_protocol.specs.Texts.{Hash, graph_text_of}
use Rattle.sg_protocol.specs.Keyring.{Program}
use Rattle.sg_protocol.specs.Schedule.{Step, Schedule, who_of, is_honest}
use Rattle.sg_protocol.specs.World.{Outcome, Answered, Crafted, NoFrame, Logged, World, frame_at}
use Rattle.sg_protocol.specs.Run.{frame_in, world_after, run}
use Rattle.sg_protocol.specs.IsSchedule.{AreCompiled, IsSchedule, IsStep}

-- the schedule with one more step
abbrev pub with_step : Schedule → Step → Schedule
with_step s x = record s { steps = s.steps ++ x ∷ [] }

-- The run of a schedule with one more step is the world after this step
abbrev pub RunsGoByStep : Hash → Type 0
RunsGoByStep sha = (programs : List Program) (s : Schedule) (x : Step) → run sha programs (with_step s x) ≡ world_after sha s (run sha programs s) (length s.steps + 1) x

-- the step is a craft, or an honest principal's
abbrev pub is_taken : Schedule → Step → Bool
is_taken s x = option_map_or (is_honest s) (who_of x) true

-- If each step is a craft or an honest principal's, the log has them all, and their numbers are their indices, from 1 on
abbrev pub LogsAreNumbered : Hash → Type 0
LogsAreNumbered sha = (programs : List Program) (s : Schedule) → list_all (is_taken s) s.steps ≡ true → map (λ l. l.number) (run sha programs s).log ≡ range_from 1 (length s.steps)

-- ---- the frames that are recorded

-- the number of a frame that is recorded after these entries: one more than there are frames in them
abbrev pub frame_number : List Logged → ℕ
frame_number before = suc (length (filter_map (λ l. l.frame) before))

-- A recorded frame is found by its number
abbrev pub FramesAreNumbered : Type 0
FramesAreNumbered = (w : World) (before : List Logged) (l : Logged) (after : List Logged) (bs : List ℕ) → w.log ≡ before ++ l ∷ after → l.frame ≡ Some bs → frame_at w (frame_number before) ≡ Some bs

-- the frame is that of the outcome
abbrev pub FitsFrame : Outcome → Option (List ℕ) → Type 0
FitsFrame (Answered a) frame = frame ≡ frame_in a
FitsFrame Crafted frame = ⊤
FitsFrame NoFrame frame = frame ≡ None

-- what was recorded fits the outcome of the step: of an answer the frame that it sends, if it sends one, and nothing if there was no frame to deliver
abbrev pub FitsOutcome : Logged → Type 0
FitsOutcome l = FitsFrame l.outcome l.frame

-- ---- the size of the record

-- the bytes that an entry adds to the record: its frame, and each text that it notes
abbrev pub logged_size : Logged → ℕ
logged_size l = option_map_or (λ bs. length bs) l.frame 0
    + sum_by (λ n. length n.text) l.notes.made
    + sum_by (λ n. length n.text) l.notes.found
    + sum_by (λ t. length t) l.notes.hashed

-- how many bytes the record holds: each graph text once, and each frame and text as often as it was noted
abbrev pub record_size : Schedule → World → ℕ
record_size s w = sum_by (λ g. length (graph_text_of g)) s.graphs + sum_by logged_size w.log

-- what a step adds to a log, and to the record
pub record Added (s : Schedule) (w now : World) : Type 0 where
  pub entries : List Logged
  pub log : now.log ≡ w.log ++ entries
  pub one : length entries ≤ 1
  pub fits : AllByRecursion FitsOutcome entries
  pub size : record_size s now ≡ record_size s w + sum_by logged_size entries

-- A step logs one entry or none, whose frame fits its outcome, and the record grows by its size
abbrev pub StepsAddEntries : Hash → Type 0
StepsAddEntries sha = (s : Schedule) (w : World) (k : ℕ) (x : Step) → Added s w (world_after sha s w k x)

-- A step in range adds less than 4,194,304 bytes to the record of a run
abbrev pub StepsAddLittle : Hash → Type 0
StepsAddLittle sha = (programs : List Program) (s : Schedule) → AreCompiled sha s.graphs programs → IsSchedule sha s → (k : ℕ) (x : Step) → IsStep sha s x →
    let w = run sha programs s in
    record_size s (world_after sha s w k x) < record_size s w + most_added_bytes
