-- What is wrong with a line of a form, after what the lines before it say.
use Rattle.std.specs.Prelude.{ℕ, ◌==◌, nat_le, Bool, false, not, ◌||◌, if◌then◌else◌, List, [], ◌∷◌, map, flat_map, length, Option, Some, None, is_none}
use Rattle.std.specs.List.{list_any, list_all}
use Rattle.std.specs.Option.{option_map_or}
use Rattle.sg_model.specs.Lists.{has_text, is_in, below, keys_of, first_some}
use Rattle.sg_model.specs.Limits.{most_events}
use Rattle.sg_protocol.specs.Graph.{Graph}
use Rattle.sg_audit.specs.Merged.{Log, roles_of, events_of}
use Rattle.sg_audit.specs.LineContents.{Assignments, StepContent, LogContent, SessionLine, LogHeadLine, EventLine, WalkLine, differ, falls}
use Rattle.sg_audit.specs.Sessions.{LogsSoFar, sessions_of}
use Rattle.sg_audit.specs.declared.fault.Mistake.{Mistake}
use Rattle.sg_audit.specs.declared.fault.Mistake.TheVariants.{Form, TooManyEvents, Unknown, Twice}

-- ---- what the lines so far say

-- the logs of the last session
abbrev pub last_logs : LogsSoFar → List Log
last_logs t = option_map_or (λ s. s.logs) t.last []

-- there is a session, and its walk isn't given
abbrev pub is_open : LogsSoFar → Bool
is_open t = option_map_or (λ s. is_none s.walk) t.last false

-- each role of the graph has a log in the last session
abbrev pub all_have_logs : Graph → LogsSoFar → Bool
all_have_logs g t = list_all (λ r. is_in r (roles_of (last_logs t))) (below (length g.roles))

-- the last session may end: its walk is given, or needn't be, since each role has a log
abbrev pub is_whole : Graph → LogsSoFar → Bool
is_whole g t = not (is_open t) || all_have_logs g t

-- how many events there are in all
abbrev pub event_count : LogsSoFar → ℕ
event_count t = length (flat_map (λ s. events_of s.logs) (sessions_of t))

-- a variable is named twice
abbrev pub is_double : {A : Type 0} → Assignments A → Bool
is_double v = not (differ (keys_of v.pairs))

-- the label of the step or a variable of it isn't the graph's
abbrev pub is_strange : StepContent → Bool
is_strange s = is_none s.label || not s.writes.known

-- ---- the kinds

-- out of place: a session before the last one may end; a log or a walk in no session that is open, or a walk if each role has a log; an event in no log.
-- Or variables, all the graph's and none named twice, that don't rise
abbrev pub is_wrong : Graph → LogsSoFar → LogContent → Bool
is_wrong g t (SessionLine n) = not (is_whole g t)
is_wrong g t (LogHeadLine role) = not (is_open t)
is_wrong g t (EventLine sent label time v) = not (is_open t) || length (last_logs t) == 0 || falls v
is_wrong g t (WalkLine steps) = not (is_open t) || all_have_logs g t || list_any (λ s. falls s.writes) steps

-- the event 100,001
abbrev pub is_too_many : LogsSoFar → LogContent → Bool
is_too_many t (EventLine sent label time v) = nat_le most_events (event_count t)
is_too_many t other = false

-- a role, a label or a variable isn't the graph's
abbrev pub is_unknown : LogContent → Bool
is_unknown (SessionLine n) = false
is_unknown (LogHeadLine role) = is_none role
is_unknown (EventLine sent label time v) = is_none label || not v.known
is_unknown (WalkLine steps) = list_any is_strange steps

-- a session of this name or a log of this role is there, or a variable is named twice
abbrev pub is_repeated : LogsSoFar → LogContent → Bool
is_repeated t (SessionLine n) = has_text n (map (λ s. s.name) (sessions_of t))
is_repeated t (LogHeadLine role) = option_map_or (λ r. is_in r (roles_of (last_logs t))) role false
is_repeated t (EventLine sent label time v) = is_double v
is_repeated t (WalkLine steps) = list_any (λ s. is_double s.writes) steps

-- the kind, if the test says so
abbrev pub where' : Bool → Mistake → Option Mistake
where' b kind = if b then Some kind else None

-- what is wrong with a line, the first in this order
abbrev pub fault : Graph → LogsSoFar → LogContent → Option Mistake
fault g t l = first_some (where' (is_wrong g t l) Form ∷ where' (is_too_many t l) TooManyEvents ∷ where' (is_unknown l) Unknown ∷ where' (is_repeated t l) Twice ∷ [])
