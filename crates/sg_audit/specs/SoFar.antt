-- What the reader keeps of the lines so far, and how it takes one more: the inner definition that the code is proved against.
use Rattle.std.specs.Prelude.{ℕ, ◌+◌, nat_le, Bool, not, ◌&&◌, ◌||◌, if◌then◌else◌, List, [], ◌∷◌, ◌++◌, map, length, Option, Some, None, is_some, is_none, Result, Ok, Err}
use Rattle.std.specs.List.{list_any, list_all}
use Rattle.std.specs.Option.{option_map_or}
use Rattle.sg_base.specs.Sets.{with_member}
use Rattle.sg_model.specs.Lists.{has_text, is_in, below}
use Rattle.sg_model.specs.Names.{Name}
use Rattle.sg_model.specs.Values.{Value}
use Rattle.sg_model.specs.Limits.{most_events}
use Rattle.sg_protocol.specs.Graph.{Graph}
use Rattle.sg_protocol.specs.Calls.{Event}
use Rattle.sg_protocol.specs.Walk.{StoredStep}
use Rattle.sg_audit.specs.Merged.{Log}
use Rattle.sg_audit.specs.LineContents.{Assignments, StepContent, LogContent, SessionLine, LogHeadLine, EventLine, WalkLine, falls, rise}
use Rattle.sg_audit.specs.Sessions.{Session, event, stored_step}
use Rattle.sg_audit.specs.declared.fault.Mistake.{Mistake}
use Rattle.sg_audit.specs.declared.fault.Mistake.TheVariants.{Form, TooManyEvents, Unknown, Twice}

-- the names of all sessions, the number of all events, the sessions before the last one; of the last one its name, its logs before the last log, the roles that have a log, the role and the events of the last log, and the walk
pub record SoFar : Type 0 where
  pub names : List Name
  pub count : ℕ
  pub done : List Session
  pub name : Option Name
  pub logs : List Log
  pub roles : List ℕ
  pub role : Option ℕ
  pub events : List Event
  pub walk : Option (List StoredStep)

-- before the first session
abbrev pub nothing : SoFar
nothing = record { names = []; count = 0; done = []; name = None; logs = []; roles = []; role = None; events = []; walk = None }

-- the logs of the last session
abbrev pub all_logs : SoFar → List Log
all_logs d = option_map_or (λ r. d.logs ++ (r, d.events) ∷ []) d.role d.logs

-- all sessions
abbrev pub all_sessions : SoFar → List Session
all_sessions d = option_map_or (λ n. d.done ++ record { name = n; logs = all_logs d; walk = d.walk } ∷ []) d.name d.done

-- each role of the graph has a log in the last session
abbrev pub all_have_logs : Graph → SoFar → Bool
all_have_logs g d = list_all (λ r. is_in r d.roles) (below (length g.roles))

-- a session may end here: there is none, or its walk is given, or each role has a log
abbrev pub is_whole : Graph → SoFar → Bool
is_whole g d = is_none d.name || is_some d.walk || all_have_logs g d

-- a session is open whose walk isn't given
abbrev pub is_open : SoFar → Bool
is_open d = is_some d.name && is_none d.walk

-- what a line adds, or what is wrong with it
abbrev pub Added : Type 0
Added = Result SoFar Mistake

-- ---- sessions and logs

-- a session stands where one may end, and its name is new
unfoldable pub add_session : Graph → SoFar → Name → Added
add_session g d n =
    if not (is_whole g d) then Err Form
    else if has_text n d.names then Err Twice
    else Ok (record { names = d.names ++ n ∷ []; count = d.count; done = all_sessions d; name = Some n; logs = []; roles = []; role = None; events = []; walk = None })

-- the log of a role that has none yet
abbrev pub open_log : SoFar → ℕ → Added
open_log d r =
    if is_in r d.roles then Err Twice
    else Ok (record { names = d.names; count = d.count; done = d.done; name = d.name; logs = all_logs d; roles = with_member 16 d.roles r; role = Some r; events = []; walk = d.walk })

-- a log stands in an open session, and is of a role of the graph
unfoldable pub add_log : SoFar → Option ℕ → Added
add_log d role = if not (is_open d) then Err Form else option_map_or (open_log d) role (Err Unknown)

-- ---- events

-- one more event of the role
abbrev pub with_event : SoFar → Event → SoFar
with_event d e = record { names = d.names; count = d.count + 1; done = d.done; name = d.name; logs = d.logs; roles = d.roles; role = d.role; events = d.events ++ e ∷ []; walk = d.walk }

-- the event, if its label and its variables are the graph's and none is named twice
abbrev pub put_event : SoFar → Bool → (role : ℕ) → Option ℕ → ℕ → Assignments Value → Added
put_event d sent role None time v = Err Unknown
put_event d sent role (Some label) time v = if not v.known then Err Unknown else if not (rise v) then Err Twice else Ok (with_event d (event sent role label time v.pairs))

-- an event of the role of the last log; there are at most 100,000
abbrev pub count_event : SoFar → Bool → Option ℕ → ℕ → Assignments Value → ℕ → Added
count_event d sent label time v role = if falls v then Err Form else if nat_le most_events d.count then Err TooManyEvents else put_event d sent role label time v

-- an event stands in a log
unfoldable pub add_event : SoFar → Bool → Option ℕ → ℕ → Assignments Value → Added
add_event d sent label time v = if not (is_open d) then Err Form else option_map_or (count_event d sent label time v) d.role (Err Form)

-- ---- walks

-- the step's label or one of its variables isn't the graph's
abbrev pub is_unknown : StepContent → Bool
is_unknown s = is_none s.label || not s.writes.known

-- the walk of the last session
abbrev pub with_walk : SoFar → List StoredStep → SoFar
with_walk d w = record { names = d.names; count = d.count; done = d.done; name = d.name; logs = d.logs; roles = d.roles; role = d.role; events = d.events; walk = Some w }

-- the walk of an open session in which a role has no log
unfoldable pub add_walk : Graph → SoFar → List StepContent → Added
add_walk g d ss =
    if not (is_open d) || all_have_logs g d then Err Form
    else if list_any (λ s. falls s.writes) ss then Err Form
    else if list_any is_unknown ss then Err Unknown
    else if list_any (λ s. not (rise s.writes)) ss then Err Twice
    else Ok (with_walk d (map stored_step ss))

-- ---- lines

-- what a line of a form adds
unfoldable pub add : Graph → SoFar → LogContent → Added
add g d (SessionLine n) = add_session g d n
add g d (LogHeadLine role) = add_log d role
add g d (EventLine sent label time values) = add_event d sent label time values
add g d (WalkLine ss) = add_walk g d ss
