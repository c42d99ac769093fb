-- The last frame that each session sent.
use Rattle.std.specs.Prelude.{ℕ, Bool, false, not, nat_lt, if◌then◌else◌, List, [], ◌∷◌, ◌++◌, length, drop, Option, option_map}
use Rattle.std.specs.Cmp.Lexicographic.{slice_cmp}
use Rattle.std.specs.FinMap.{FinMap, empty, get, insert, remove}
use Rattle.std.specs.Option.{option_map_or}
use Rattle.std.specs.Ordering.{nat_cmp}
use Rattle.sg_base.specs.declared.address.Addr.{Addr}

-- a frame that a session sent: its number, the name of its receiver, where it goes, and its bytes
pub record SentFrame : Type 0 where
  pub number : ℕ
  pub to : List ℕ
  pub at : Addr
  pub bytes : List ℕ

-- a frame that is kept, and whether its session is live
pub record KeptFrame : Type 0 where
  pub frame : SentFrame
  pub live : Bool

-- frames by the sid of their session
abbrev pub Frames : Type 0
Frames = FinMap (slice_cmp nat_cmp) KeptFrame

-- what is kept: the last frames of sessions, and which of these sessions are live no more, in the order in which they ended
pub record LastFrames : Type 0 where
  pub frames : Frames
  pub over : List (List ℕ)

-- frames kept of sessions that are live no more
abbrev pub most_over : ℕ
most_over = 4096

-- nothing
abbrev pub no_frames : LastFrames
no_frames = record { frames = empty; over = [] }

-- the frame that is kept of a session
abbrev pub frame_of : LastFrames → (sid : List ℕ) → Option SentFrame
frame_of l sid = option_map (λ k. k.frame) (get l.frames sid)

-- a frame of the session is kept, and it is live no more
abbrev pub is_over : Frames → (sid : List ℕ) → Bool
is_over frames sid = option_map_or (λ k. not k.live) (get frames sid) false

-- what is kept after a session sent a frame, which takes the place of its earlier one. A session that has ended is live no more, whatever it sends
abbrev pub sent : LastFrames → (sid : List ℕ) → SentFrame → LastFrames
sent l sid f = record l { frames = insert l.frames sid (record { frame = f; live = not (is_over l.frames sid) }) }

-- without the frame of the first of these sessions
abbrev pub without_first : (over : List (List ℕ)) → Frames → Frames
without_first [] frames = frames
without_first (sid ∷ sids) frames = remove frames sid

-- without that of the session that ended first, if too many ended
abbrev pub within_limit : LastFrames → LastFrames
within_limit l = if nat_lt most_over (length l.over) then record { frames = without_first l.over l.frames; over = drop 1 l.over } else l

-- what is kept after a session ended, whose last frame this is
abbrev pub ends : LastFrames → (sid : List ℕ) → SentFrame → LastFrames
ends l sid f = within_limit (record { frames = insert l.frames sid (record { frame = f; live = false }); over = l.over ++ sid ∷ [] })

-- what is kept after a session ended. It ends once: if it had ended before, or no frame of it is kept, nothing changes
abbrev pub ended : LastFrames → (sid : List ℕ) → LastFrames
ended l sid = option_map_or (λ k. if k.live then ends l sid k.frame else l) (get l.frames sid) l
