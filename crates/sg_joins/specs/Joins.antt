-- The pairs of session and role that calls of a node join.
use Rattle.std.specs.Prelude.{◌≡◌, ◌<◌, ℕ, List, [], ◌∷◌, ◌++◌, if◌then◌else◌, flat_map, length, Contains, Option, Some, None}
use Rattle.std.specs.Option.{option_map_or}
use Rattle.sg_ledger.specs.Format.{Join}
use Rattle.sg_protocol.specs.Calls.{Event, Answer, Happened, sid_of, role_of, does_join}
use Rattle.sg_protocol.specs.Frame.{Frame}
use Rattle.sg_protocol.specs.Past.{AnsweredCall}
use Rattle.sg_protocol.specs.Spelling.{spelling}
use Rattle.sg_report.specs.Reported as Report
use Rattle.sg_report.specs.Reported.{Reported}

-- the pair that an event joins, if it joins one
abbrev pub join_of : Event → Option Join
join_of e = if does_join e then Some (sid_of e, role_of e) else None

-- the pair that is joined by an answer
abbrev pub join_in : Answer → Option Join
join_in (Happened e) = join_of e
join_in other = None

-- so by what is reported of it
abbrev pub join_reported : Reported → Option Join
join_reported (Report.Happened e) = join_of e
join_reported other = None

-- joins, with one more if there is one
abbrev pub with_join : List Join → Option Join → List Join
with_join joins join = option_map_or (λ j. joins ++ j ∷ []) join joins

-- the joins that calls made, in order
abbrev pub joins_made : List AnsweredCall → List Join
joins_made calls = flat_map (λ c. option_map_or (λ j. j ∷ []) (join_in c.answer) []) calls

-- the pair can join these: it is none of them, there are fewer than 65,536, and its role is below 16
pub record IsNew (joins : List Join) (j : Join) : Type 0 where
  pub absent : ¬ Contains joins j
  pub room : length joins < 65536
  pub role : j.1 < 16

-- these bytes are a frame whose session and sender are one of these joins
abbrev pub IsOfJoin : List Join → (bytes : List ℕ) → Type 0
IsOfJoin joins bytes = (f : Frame) × (bytes ≡ spelling f) × Contains joins (f.sid, f.sender)
