-- What a line of a form adds to what is declared, or what is wrong with it, test by test.
use Rattle.std.specs.Prelude.{ℕ, ◌==◌, nat_lt, nat_le, true, slice_get, Bool, not, if◌then◌else◌, List, length, map, position, bytes_eq, codes, Option, Some, None, option_map, option_and_then, Result, Ok, Err}
use Rattle.std.specs.List.{list_any, list_all}
use Rattle.std.specs.Option.{option_map_or}
use Rattle.sg_model.specs.Last.{Map}
use Rattle.sg_model.specs.Names.{Name}
use Rattle.sg_model.specs.Values.{Value}
use Rattle.sg_model.specs.Lists.{has_text, all_differ}
use Rattle.sg_model.specs.Limits.{most_declared, most_edges, most_steps}
use Rattle.sg_protocol.specs.Graph.{Graph}
use Rattle.sg_protocol.specs.Schedule.{Step, StartStep, ActStep, AbandonStep}
use Rattle.sg_sched.specs.Pair.{edge, labels}
use Rattle.sg_sched.specs.Format.LineContents.{Word, Assignment, LineContent}
use Rattle.sg_sched.specs.Format.Values.{bytes_of}
use Rattle.sg_sched.specs.Format.Items.{Item, EdgeItem, HonestItem, KeyItem, SessionItem, StepItem, Session, SoFar, graphs_declared, graph_names, session_names, graph_for, labels_of, is_key_of}
use Rattle.sg_sched.specs.Format.Numbered.{made_after, values}
use Rattle.sg_sched.specs.Format.Kinds.{Kind, Form, TooManySteps, TooManySessions, Unknown, Twice, NotHonest}
use Rattle.sg_sched.specs.Format.Faults.{fault_after, is_like, knows_variable}
use Rattle.sg_sched_text.specs.Plus.{plus}

-- what is declared with the line, or what is wrong with it
abbrev pub Added : Type 0
Added = Result SoFar Kind

-- the fault, or what is declared with the item that is made
abbrev pub added : SoFar → Option Kind → Option Item → Added
added past (Some kind) made = Err kind
added past None (Some item) = Ok (plus past item)
added past None None = Ok past

-- what is declared after a line of a form
unfoldable pub after_line : SoFar → LineContent → Added
after_line past statement = added past (fault_after past statement) (made_after past statement)

-- ---- declarations

-- at most 512 edges, with different labels, and no block of their graph's name
unfoldable pub add_edge : SoFar → Name → ℕ → ℕ → Added
add_edge past label from to =
    if nat_lt 0 past.group then Err Form
    else if nat_le most_edges (length past.edges) then Err Form
    else if has_text label (labels past.edges) then Err Twice
    else if has_text (codes "pair") (graph_names past.blocks) then Err Twice
    else Ok (plus past (EdgeItem (edge label from to)))

-- an honest principal is named once
unfoldable pub add_honest : SoFar → Name → Added
add_honest past who =
    if nat_lt 1 past.group then Err Form
    else if has_text who past.honest then Err Twice
    else Ok (plus past (HonestItem who))

-- two principals have one key
unfoldable pub add_key : SoFar → Name → Name → Word → Added
add_key past one two digits =
    if nat_lt 2 past.group then Err Form
    else if list_any (is_key_of one two) past.keys then Err Twice
    else Ok (plus past (KeyItem (record { one = one; two = two; key = bytes_of digits })))

-- a session of the graph at an index
abbrev pub session_at : Name → ℕ → List Name → ℕ → ℕ → Session
session_at name nonce names version index = record { name = name; graph = index; nonce = nonce; names = names; version = version }

-- there are as many names as the graph at the index has roles, if there is one
abbrev pub fits_at : SoFar → Option ℕ → List Name → Bool
fits_at past index names = option_map_or (λ g. length names == length g.roles) (option_and_then (slice_get (graphs_declared past)) index) true

-- at most 100,000 sessions, of declared graphs, that are not alike
unfoldable pub add_session : SoFar → Name → Name → ℕ → List Name → ℕ → Added
add_session past name graph nonce names version =
    if nat_lt 3 past.group then Err Form
    else if not (fits_at past (position (bytes_eq graph) (graph_names (graphs_declared past))) names) then Err Form
    else if nat_le most_declared (length past.sessions) then Err TooManySessions
    else option_map_or (λ index.
    if has_text name (session_names past) then Err Twice
    else if list_any (is_like index nonce names version) past.sessions then Err Twice
    else Ok (plus past (SessionItem (session_at name nonce names version index))))
    (position (bytes_eq graph) (graph_names (graphs_declared past))) (Err Unknown)

-- ---- steps

-- the index of a session
abbrev pub session_index : SoFar → Name → Option ℕ
session_index past session = position (bytes_eq session) (session_names past)

-- at most 200,000 steps. It has names that are declared, none of them twice, and it is of an honest principal
unfoldable pub add_step : SoFar → Bool → Bool → Option Step → Added
add_step past repeated honest step =
    if nat_le most_steps (length past.steps) then Err TooManySteps
    else option_map_or (λ s. if repeated then Err Twice else if honest then Ok (plus past (StepItem s)) else Err NotHonest) step (Err Unknown)

-- the step of a start
abbrev pub start_step : SoFar → Name → Name → Option Step
start_step past who session = option_map (StartStep who) (session_index past session)

-- the step of an abandonment
abbrev pub abandon_step : SoFar → Name → Name → Option Step
abandon_step past who session = option_map (AbandonStep who) (session_index past session)

-- the values of an act, if all its variables are the graph's
abbrev pub known_values : Option Graph → List Assignment → Option (Map Value)
known_values g vs = if list_all (λ v. knows_variable g v.variable) vs then Some (values g vs) else None

-- an act of the session at an index
abbrev pub act_of : Option Graph → Name → Name → List Assignment → ℕ → Option Step
act_of g who label vs s = option_and_then (λ l. option_map (ActStep who s l) (known_values g vs)) (position (bytes_eq label) (labels_of g))

-- the step of an act
abbrev pub act_step : SoFar → Name → Name → Name → List Assignment → Option Step
act_step past who session label vs = option_and_then (act_of (graph_for session past) who label vs) (session_index past session)

-- an act names a variable twice
abbrev pub is_twice : List Assignment → Bool
is_twice vs = not (all_differ (map (λ v. v.variable) vs))
