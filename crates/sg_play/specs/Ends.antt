-- What a play has given the outside: whole steps, and if it ended early how far it came.
use Rattle.std.specs.Prelude.{◌≡◌, ℕ, List, ◌∷◌, ◌++◌, take, Option, Result, Ok, Err}
use Rattle.sg_base.specs.declared.address.Addr.{Addr}
use Rattle.sg_base.specs.Outside.{Appends}
use Rattle.sg_play.specs.declared.fault.PlayFault.{PlayFault}
use Rattle.sg_play.specs.declared.fault.PlayFault.TheVariants.{LinkFailed, WriteFailed, OutOfMemory}
use Rattle.sg_play.specs.Steps.{Step, lines_of, frames_of}

-- what is known of the sink and the link: the bytes written, and the frames sent
pub record Outside : Type 0 where
  pub written : Option (List ℕ)
  pub sent : Option (List (Addr × List ℕ))

-- the lines of these steps were written, and their frames taken
pub record Whole (old new : Outside) (steps : List Step) : Type 0 where
  pub lines : Appends old.written new.written (lines_of steps)
  pub frames : Appends old.sent new.sent (frames_of steps)

-- those of the first of these steps
pub record WholePrefix (old new : Outside) (steps : List Step) : Type 0 where
  pub prefix : List Step
  pub rest : List Step
  pub is : steps ≡ prefix ++ rest
  pub whole : Whole old new prefix

-- those of the first of these steps, then the frame of one more, and a prefix of its line
pub record Begun (old new : Outside) (steps : List Step) : Type 0 where
  pub prefix : List Step
  pub step : Step
  pub rest : List Step
  pub bytes : ℕ
  pub is : steps ≡ prefix ++ step ∷ rest
  pub lines : Appends old.written new.written (lines_of prefix ++ take bytes step.line)
  pub frames : Appends old.sent new.sent (frames_of prefix ++ step.frames)

-- a play of these steps ended so. If the link failed or memory ran out, whole steps were taken; if a line was not written whole, its frame was taken
abbrev pub Ended : (old new : Outside) → List Step → Result (Unit {0}) PlayFault → Type 0
Ended old new steps (Ok u) = Whole old new steps
Ended old new steps (Err LinkFailed) = WholePrefix old new steps
Ended old new steps (Err WriteFailed) = Begun old new steps
Ended old new steps (Err OutOfMemory) = WholePrefix old new steps
