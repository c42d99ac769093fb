-- Which first lines take memory: those that take memory to be read, and those that aren't refused before what they say is kept.
use Rattle.std.specs.Prelude.{Bool, true, false, ◌||◌, if◌then◌else◌, List, [], ◌∷◌, Option, Some, None, is_some}
use Rattle.sg_model.specs.Lists.{has_text}
use Rattle.sg_sched.specs.Text.{content, words}
use Rattle.sg_sched.specs.Format.Early.{line_beginning}
use Rattle.sg_sched.specs.Format.Form.{form}
use Rattle.sg_sched.specs.Format.Forms.{is_skipped}
use Rattle.sg_sched.specs.Format.Items.{SoFar}
use Rattle.sg_sched.specs.Format.LineContents.{Delivered, TheBytes, LineContent, StartLine, AbandonLine, DeliverLine}
use Rattle.sg_sched.specs.Format.Spells.{Line}

-- bytes are delivered, and no frame
abbrev pub has_bytes : Delivered → Bool
has_bytes (TheBytes digits) = true
has_bytes other = false

-- what the line says may be kept: it isn't a start, an abandonment or a delivery of a frame of a principal that isn't honest
abbrev pub is_kept : SoFar → LineContent → Bool
is_kept past (StartLine who session) = has_text who past.honest
is_kept past (AbandonLine who session) = has_text who past.honest
is_kept past (DeliverLine who what) = has_bytes what || has_text who past.honest
is_kept past other = true

-- so may what is said, if something is
abbrev pub is_said : SoFar → Option LineContent → Bool
is_said past None = false
is_said past (Some statement) = is_kept past statement

-- the line takes memory when it is read, or when it is taken
abbrev pub takes_memory : SoFar → Line → Bool
takes_memory past line = is_some (line_beginning (words (content line))) || is_said past (form (words (content line)))

-- the first line that isn't skipped takes memory, or there is none
abbrev pub begins_late : SoFar → List Line → Bool
begins_late past [] = true
begins_late past (l ∷ ls) = if is_skipped l then begins_late past ls else takes_memory past l
