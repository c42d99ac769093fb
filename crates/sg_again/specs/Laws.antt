-- What holds of the frames that are kept after any calls.
use Rattle.std.specs.Prelude.{◌≡◌, ◌⊎◌, ◌≤◌, ℕ, Bool, false, ◌||◌, bytes_eq, if◌then◌else◌, List, length, fold, Option, None, Some}
use Rattle.sg_again.specs.LastFrames.{SentFrame, LastFrames, most_over, no_frames, sent, ended, frame_of}

-- a session sends a frame, or it ends
pub data Call : Type 0 where
  Sends : (sid : List ℕ) (frame : SentFrame) → Call
  Ends : (sid : List ℕ) → Call

-- the frames that are kept after one more call
abbrev pub after_call : LastFrames → Call → LastFrames
after_call l (Sends sid f) = sent l sid f
after_call l (Ends sid) = ended l sid

-- the frames that are kept after the calls
abbrev pub kept_after : List Call → LastFrames
kept_after calls = fold after_call no_frames calls

-- the last frame that the session sent, one call later
abbrev pub last_after : List ℕ → Option SentFrame → Call → Option SentFrame
last_after sid last (Sends s f) = if bytes_eq sid s then Some f else last
last_after sid last (Ends s) = last

-- the last frame that the session sent
abbrev pub last_sent : List ℕ → List Call → Option SentFrame
last_sent sid calls = fold (last_after sid) None calls

-- whether the session has ended, one call later
abbrev pub ended_after : List ℕ → Bool → Call → Bool
ended_after sid b (Sends s f) = b
ended_after sid b (Ends s) = b || bytes_eq sid s

-- whether the session has ended
abbrev pub has_ended : List ℕ → List Call → Bool
has_ended sid calls = fold (ended_after sid) false calls

-- The frame that is kept of a session is the last one that it sent, or none is kept
abbrev pub KeepsTheLast : Type 0
KeepsTheLast = (calls : List Call) (sid : List ℕ) → (frame_of (kept_after calls) sid ≡ last_sent sid calls) ⊎ (frame_of (kept_after calls) sid ≡ None)

-- The last frame of a session that has not ended is kept
abbrev pub KeepsTheLive : Type 0
KeepsTheLive = (calls : List Call) (sid : List ℕ) → has_ended sid calls ≡ false → frame_of (kept_after calls) sid ≡ last_sent sid calls

-- Of no more than 4,096 sessions that ended a frame is kept
abbrev pub KeepsFew : Type 0
KeepsFew = (calls : List Call) → length (kept_after calls).over ≤ most_over
