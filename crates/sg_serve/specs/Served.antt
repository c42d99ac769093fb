-- What a run has given the outside and what it has kept, where it ended.
use Rattle.std.specs.Prelude.{◌≡◌, ℕ, ◌+◌, ◌-◌, ◌^◌, ◌≤◌, ◌⊎◌, IsTrue, Bool, List, [], ◌∷◌, ◌++◌, map, take, Option, Some, Result, Ok, Err}
use Rattle.std.specs.Option.{option_map_or}
use Rattle.sg_again.specs.LastFrames.{no_frames}
use Rattle.sg_base.specs.declared.address.Addr.{Addr}
use Rattle.sg_base.specs.Outside.{Appends}
use Rattle.sg_input.specs.Lines.{Line}
use Rattle.sg_joins.specs.Joins.{joins_made}
use Rattle.sg_joins.specs.Images.{AllRepresent}
use Rattle.sg_ledger.specs.Format.{Join, OpenLedger, Represents}
use Rattle.sg_play.specs.Played.{beginning}
use Rattle.sg_play.specs.Steps.{Step, lines_of, frames_of}
use Rattle.sg_protocol.specs.Keyring.{Keyring, Program}
use Rattle.sg_wait.specs.declared.coming.Coming.{Coming}
use Rattle.sg_serve.specs.declared.fault.ServeFault.{ServeFault}
use Rattle.sg_serve.specs.declared.fault.ServeFault.TheVariants.{InputFailed, WriteFailed, DiskFailed, OutOfMemory}
use Rattle.sg_serve.specs.Serving.{Serving}
use Rattle.sg_serve.specs.Lines.{Run, with_line, with_lines, until_quit}

-- what is known of the sink and the link: the bytes written, the frames sent, what is to come, and how often calls of the link failed
pub record Outside : Type 0 where
  pub written : Option (List ℕ)
  pub sent : Option (List (Addr × List ℕ))
  pub coming : Option (List Coming)
  pub failed : ℕ

-- a count rose by so much at least, or stands at its end
abbrev pub RoseBy : ℕ → (old new : ℕ) → Type 0
RoseBy n old new = (old + n ≤ new) ⊎ (2 ^ 64 - 1 ≤ new)

-- the answers so far were written and their frames went out, and the link failed as often as they say
pub record Gave (old new : Outside) (r : Run) : Type 0 where
  pub lines : Appends old.written new.written (lines_of r.answers)
  pub frames : Appends old.sent new.sent (frames_of r.answers)
  pub failed : RoseBy r.failures old.failed new.failed

-- and the random bytes that are left, and what is to come, are as it says
pub record Agrees (old new : Outside) (random : Option (List (List ℕ))) (r : Run) : Type 0 where
  pub gave : Gave old new r
  pub random_left : random ≡ Some (r.serving).play.random
  pub coming : new.coming ≡ Some r.coming

-- so with the next line, of whose answer a prefix was written
pub record Begun (old new : Outside) (r : Run) (line : Line) (took : Bool) : Type 0 where
  pub step : Step
  pub is_step : (with_line took r line).answers ≡ r.answers ++ step ∷ []
  pub bytes : ℕ
  pub lines : Appends old.written new.written (lines_of r.answers ++ take bytes step.line)
  pub frames : Appends old.sent new.sent (frames_of (with_line took r line).answers)
  pub failed : RoseBy (with_line took r line).failures old.failed new.failed

-- ---- joins

-- the joins that the node was made with, and then those of its calls
abbrev pub joins_of : Serving → List Join
joins_of s = s.play.past.first ++ joins_made s.play.past.calls

-- the joins of a ledger, if there is one
abbrev pub joins_kept : Option OpenLedger → List Join
joins_kept ledger = option_map_or (λ l. l.joins) ledger []

-- the images of a ledger, if there is one: what a crash may leave of the disk
abbrev pub images_if : (kept : Bool) → (may_leave : List ℕ → Type 0) → List ℕ → Type 0
images_if kept may_leave image = IsTrue kept × may_leave image

-- each image represents the joins so far, or those with the next line's
abbrev pub RepresentBetween : (images : List ℕ → Type 0) → Run → (rest : List Line) → Type 0
RepresentBetween images r [] = AllRepresent images (joins_of r.serving)
RepresentBetween images r (line ∷ lines) = (image : List ℕ) → images image → Represents image (joins_of r.serving) ⊎ ((took : Bool) × Represents image (joins_of (with_line took r line).serving))

-- ---- the end

-- whole answers were given, and nothing of the next line's
pub record HasStopped (old new : Outside) (images : List ℕ → Type 0) (r : Run) (rest : List Line) : Type 0 where
  pub gave : Gave old new r
  pub kept : RepresentBetween images r rest

-- whole answers, and one that was begun, whose join is kept
pub record HasBegun (old new : Outside) (images : List ℕ → Type 0) (r : Run) (rest : List Line) : Type 0 where
  pub line : Line
  pub took : Bool
  pub later : List Line
  pub is_next : rest ≡ line ∷ later
  pub begun : Begun old new r line took
  pub kept : AllRepresent images (joins_of (with_line took r line).serving)

-- a run that has come so far, with these lines before it, ended there
abbrev pub EndedAt : (old new : Outside) → (random : Option (List (List ℕ))) → (images : List ℕ → Type 0) → Run → (rest : List Line) → Result (Unit {0}) ServeFault → Type 0
EndedAt old new random images r rest (Ok u) = (rest ≡ []) × Agrees old new random r × AllRepresent images (joins_of r.serving)
EndedAt old new random images r rest (Err InputFailed) = Gave old new r × AllRepresent images (joins_of r.serving)
EndedAt old new random images r rest (Err WriteFailed) = HasBegun old new images r rest
EndedAt old new random images r rest (Err DiskFailed) = HasStopped old new images r rest
EndedAt old new random images r rest (Err OutOfMemory) = HasStopped old new images r rest

-- ---- a run

-- a node with these keys and programs, which joined these pairs before, and nothing answered yet
abbrev pub opening : Keyring → List Program → (first : List Join) → List Coming → (random : List (List ℕ)) → Run
opening keys programs first coming random = record {
  serving = record { play = beginning keys programs first [] random; graphs = []; last = no_frames };
  coming = coming;
  answers = [];
  failures = 0;
}

-- a run of these lines: the first of them up to the end that is asked for were answered, if it ended well all of these
pub record Served (old new : Outside) (random : Option (List (List ℕ))) (images : List ℕ → Type 0) (start : Run) (lines : List Line) (result : Result (Unit {0}) ServeFault) : Type 0 where
  pub prefix : List (Line × Bool)
  pub rest : List Line
  pub is : until_quit lines ≡ map (λ x. x.0) prefix ++ rest
  pub ended : EndedAt old new random images (with_lines start prefix) rest result
