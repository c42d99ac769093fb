-- What a craft has to work with, and the frame that it makes of it.
use Rattle.std.specs.Prelude.{◌≡◌, ℕ, List, [], map, Some, None}
use Rattle.sg_protocol.specs.Graph.{Graph}
use Rattle.sg_protocol.specs.Frame.{Cast, Frame}
use Rattle.sg_protocol.specs.Spelling.{HasSpelling}
use Rattle.sg_protocol.specs.Notes.{no_notes}
use Rattle.sg_protocol.specs.Session.{new_session}
use Rattle.sg_protocol.specs.Texts.{real, session_id}
use Rattle.sg_protocol.specs.Schedule.{PairKey, Craft, Schedule, cast_of, graph_with}
use Rattle.sg_protocol.specs.World.{World, Crafted, frames}
use Rattle.sg_protocol.specs.Crafted.{crafted_frame}

-- a session with its graph, the keys of pairs of principals, and the frames that were recorded
pub record Means : Type 0 where
  pub graph : Graph
  pub cast : Cast
  pub sid : List ℕ
  pub keys : List PairKey
  pub frames : List (List ℕ)

-- a schedule with these keys, and nothing else
abbrev pub with_keys : List PairKey → Schedule
with_keys keys = record { graphs = []; honest = []; keys = keys; sessions = []; steps = [] }

-- a world that recorded these frames, and nothing else
abbrev pub with_frames : List (List ℕ) → World
with_frames fs = record { pasts = []; log = map (λ f. record { number = 0; who = None; call = None; outcome = Crafted; frame = Some f; notes = no_notes }) fs }

-- the frame that a craft makes by its means
abbrev pub frame_by : Means → Craft → Frame
frame_by m c = crafted_frame real (with_keys m.keys) (with_frames m.frames) c m.graph (new_session m.sid m.cast c.from)

-- the means are those of the craft's session in the schedule, at this point of a run
pub record AreMeans (m : Means) (c : Craft) (s : Schedule) (w : World) : Type 0 where
  pub cast : cast_of s c.session ≡ Some m.cast
  pub graph : graph_with real s.graphs m.cast.graph ≡ Some m.graph
  pub sid : m.sid ≡ session_id real m.cast
  pub keys : m.keys ≡ s.keys
  pub frames : m.frames ≡ frames w

-- the frame has a spelling, with zeros for the tags that it copies
abbrev pub CanBeMade : Means → Craft → Type 0
CanBeMade m c = HasSpelling (frame_by (record m { frames = [] }) c)
