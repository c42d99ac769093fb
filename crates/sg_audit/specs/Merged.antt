-- The events of several logs in the order of their times.
use Rattle.std.specs.Prelude.{ℕ, ◌+◌, ◌*◌, ◌==◌, ◌≤◌, nat_le, Bool, ◌||◌, List, [], ◌∷◌, flat_map, map, IsPermutation, ⊤}
use Rattle.std.specs.List.{count_by}
use Rattle.sg_protocol.specs.Calls.{Event, Started, Sent, Received}

-- a log: its role, and the role's events in their order
abbrev pub Log : Type 0
Log = ℕ × List Event

-- the roles that have a log
abbrev pub roles_of : List Log → List ℕ
roles_of logs = map (λ (l : Log). l.0) logs

-- the events of all logs
abbrev pub events_of : List Log → List Event
events_of logs = flat_map (λ (l : Log). l.1) logs

-- twice the time, and one more for a receipt. So moments order events by their times, and at equal times Sent before Received. A start, which no log has, comes first
abbrev pub moment : Event → ℕ
moment (Started sid r) = 0
moment (Sent sid r label time values) = 2 * time
moment (Received sid r label time values joins) = 2 * time + 1

-- two of the events have this moment
abbrev pub has_two : ℕ → List Event → Bool
has_two m events = nat_le 2 (count_by (λ e. moment e == m) events)

-- two Sent or two Received have this time
abbrev pub clashes : List Event → ℕ → Bool
clashes events time = has_two (2 * time) events || has_two (2 * time + 1) events

-- no moment is less than the one before it, the first not less than the least
abbrev pub AscendFrom : ℕ → List Event → Type 0
AscendFrom least [] = ⊤
AscendFrom least (e ∷ es) = (least ≤ moment e) × AscendFrom (moment e) es

-- all events of the logs by time, Sent before Received at equal times
pub record IsMerged (logs : List Log) (merged : List Event) : Type 0 where
  pub all : IsPermutation (events_of logs) merged
  pub ascends : AscendFrom 0 merged
