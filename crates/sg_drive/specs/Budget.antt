-- How many steps a run that is being generated may still take. Each turn takes fewer than it uses up.
use Rattle.std.specs.Prelude.{◌≡◌, ℕ, ◌+◌, ◌-◌, ◌*◌, ◌≤◌, Bool, true, if◌then◌else◌, List, [], ◌∷◌, length, map, sum_by, Some, Ok}
use Rattle.std.specs.List.{AllByRecursion}
use Rattle.sg_model.specs.Limits.{most_driven}
use Rattle.sg_model.specs.Shape.{receiver}
use Rattle.sg_protocol.specs.Frame.{Frame}
use Rattle.sg_protocol.specs.Graph.{Graph, shape}
use Rattle.sg_protocol.specs.IsSchedule.{AreCompiled}
use Rattle.sg_protocol.specs.Reading.{read}
use Rattle.sg_protocol.specs.Schedule.{sid_at}
use Rattle.sg_protocol.specs.Session.{last_time}
use Rattle.sg_protocol.specs.Texts.{real}
use Rattle.sg_protocol.specs.World.{frame_at}
use Rattle.sg_setting.specs.Replay.{Replay, run_of, without_steps}
use Rattle.sg_drive.specs.Going.{Pending}
use Rattle.sg_drive.specs.Machine.{Machine, IsThere}
use Rattle.sg_sessions.specs.Own.{IsOwnRun, IsSpentBy}
use Rattle.sg_sessions.specs.Setup.{setup}

-- ---- frames on their way

-- the steps that may follow if a frame of this time is accepted: an act and four deliveries for each later frame up to time 16, and an abandonment
abbrev pub steps_after : ℕ → ℕ
steps_after time = 5 * (16 - time) + 1

-- a pending frame with its time, and whether its receiver has accepted it
pub record OnItsWay : Type 0 where
  pub pending : Pending
  pub time : ℕ
  pub taken : Bool

-- the steps that a pending frame may bring: its deliveries, and if it was not accepted what follows
abbrev pub steps_of : OnItsWay → ℕ
steps_of o = (4 - o.pending.count) + (if o.taken then 0 else steps_after o.time)

-- the frame is recorded with this time, for the session and the receiver of its label, and if it is said to be taken its receiver takes it no more
pub record IsOnItsWay (g : Graph) (r : Replay) (o : OnItsWay) : Type 0 where
  pub bytes : List ℕ
  pub frame : Frame
  pub recorded : frame_at (run_of r) o.pending.frame ≡ Some bytes
  pub reads : read bytes ≡ Ok frame
  pub time : last_time frame.items ≡ o.time
  pub goes_to : frame.receiver ≡ receiver (shape g) o.pending.label
  pub sid : frame.sid ≡ sid_at real r.schedule o.pending.session
  pub taken : o.taken ≡ true → IsSpentBy (run_of r) (receiver (shape g) o.pending.label) frame

-- ---- what is left

-- the graph is compiled, this many sessions of it are declared, and the run so far is one of honest principals
pub record IsUnderway (g : Graph) (sessions : ℕ) (r : Replay) : Type 0 where
  pub compiled : AreCompiled real (g ∷ []) r.programs
  pub two : 2 ≤ length g.roles
  pub few : sessions ≤ most_driven
  pub declared : without_steps r.schedule ≡ setup sessions g
  pub run : IsOwnRun real g (run_of r)

-- the frames that are pending are on their way
pub record AreOnTheirWay (g : Graph) (sessions : ℕ) (r : Replay) (frames : List Pending) (ways : List OnItsWay) : Type 0 where
  pub pending : map (λ o. o.pending) ways ≡ frames
  pub each : AllByRecursion (IsOnItsWay g r) ways
  pub there : AllByRecursion (IsThere g sessions) frames

-- what was taken, drawn and lost leaves so many steps of the 82 for each session, of which each may draw 40 numbers and lose a frame
pub record Leaves (rest sessions taken drawn missed : ℕ) : Type 0 where
  pub steps : taken + rest ≤ 82 * sessions
  pub draws : drawn + 40 * rest ≤ 3280 * sessions
  pub lost : missed + rest ≤ 82 * sessions

-- the pending frames bring at most `left` steps, if `begun` sessions have begun, and so many are left beside those of the sessions to come
pub record HasLeft (left begun : ℕ) (m : Machine) (ways : List OnItsWay) : Type 0 where
  pub underway : IsUnderway m.graph m.sessions m.going.replay
  pub frames : AreOnTheirWay m.graph m.sessions m.going.replay m.going.pending ways
  pub so_many : begun ≤ m.sessions
  pub covers : sum_by steps_of ways ≤ left
  pub leaves : Leaves (left + 82 * (m.sessions - begun)) m.sessions (length m.going.replay.schedule.steps) m.going.draws m.going.lost

-- at most `most` steps are left for the frames that are pending
pub record HasBudget (most begun : ℕ) (m : Machine) : Type 0 where
  pub left : ℕ
  pub ways : List OnItsWay
  pub within : left ≤ most
  pub has : HasLeft left begun m ways
