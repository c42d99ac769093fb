-- The words of a line as they are written, and what they say of a graph.
use Rattle.std.specs.Prelude.{◌≡◌, ℕ, nat_lt, nat_le, Bool, true, ◌&&◌, ◌||◌, if◌then◌else◌, List, [], ◌∷◌, ◌++◌, map, filter_map, length, codes, bytes_eq, Option, Some, None, option_map}
use Rattle.std.specs.List.{list_all}
use Rattle.std.specs.Option.{option_map_or}
use Rattle.std.specs.Fmt.{decimal}
use Rattle.sg_model.specs.Lists.{has_text}
use Rattle.sg_model.specs.Names.{Name, is_name}
use Rattle.sg_model.specs.Values.{Value}
use Rattle.sg_model.specs.Limits.{most_time}
use Rattle.sg_protocol.specs.Graph.{Graph}
use Rattle.sg_graph.specs.Parts.{variable_names, edge_names}
use Rattle.sg_sched.specs.Format.LineContents.{Word, Assignment as Pair, assignment_word, joined_names}
use Rattle.sg_sched.specs.Format.Values.{is_value, value_of}
use Rattle.sg_audit.specs.LineContents.{Assignments, StepContent, LogContent, SessionLine, LogHeadLine, EventLine, WalkLine, numbered}

-- a step of a walk: whether * stands in front, the label, and what stands between ( and ) if they stand
pub record WrittenStep : Type 0 where
  pub starred : Bool
  pub label : Name
  pub writes : Option (List Pair)

-- a line: names as they stand, a number, and values as they are written
pub data Written : Type 0 where
  ASession : Name → Written
  ALog : (role : Name) → Written
  AnEvent : (sent : Bool) (label : Name) (time : ℕ) (values : List Pair) → Written
  AWalk : List WrittenStep → Written

-- ---- the words

-- (VAR=VALUE,..), or nothing
abbrev pub writes_word : Option (List Pair) → Word
writes_word None = []
writes_word (Some ps) = 40 ∷ (joined_names (map assignment_word ps) ++ 41 ∷ [])

-- [*]LABEL[(VAR=VALUE,..)]
abbrev pub step_word : WrittenStep → Word
step_word s = (if s.starred then codes "*" else []) ++ (s.label ++ writes_word s.writes)

-- the words of a line
abbrev pub line_words : Written → List Word
line_words (ASession n) = codes "session" ∷ n ∷ []
line_words (ALog role) = codes "log" ∷ role ∷ []
line_words (AnEvent sent label time values) = (if sent then codes "sent" else codes "received") ∷ label ∷ decimal time ∷ map assignment_word values
line_words (AWalk steps) = codes "walk" ∷ map step_word steps

-- ---- what each field may hold

-- VAR=VALUE
abbrev pub is_assignment : Pair → Bool
is_assignment p = is_name p.variable && is_value p.value

-- VAR=VALUE, or VAR=? for a hidden value
abbrev pub is_write : Pair → Bool
is_write p = is_name p.variable && (bytes_eq p.value (codes "?") || is_value p.value)

-- a label, and between ( and ) one write at least
abbrev pub is_step : WrittenStep → Bool
is_step s = is_name s.label && option_map_or (λ ps. nat_lt 0 (length ps) && list_all is_write ps) s.writes true

-- names, a time from 1 to 1,000,000, and values
abbrev pub is_form : Written → Bool
is_form (ASession n) = is_name n
is_form (ALog role) = is_name role
is_form (AnEvent sent label time values) = is_name label && (nat_le 1 time && nat_le time most_time) && list_all is_assignment values
is_form (AWalk steps) = list_all is_step steps

-- ---- what is said

-- the value, or none if it is hidden
abbrev pub shown_value : Word → Option Value
shown_value w = if bytes_eq w (codes "?") then None else Some (value_of w)

-- the variables that the graph declares with their values, and whether it declares all
abbrev pub assigned_in : {A : Type 0} → List Name → (Word → A) → List Pair → Assignments A
assigned_in names value ps = record { pairs = filter_map (λ p. option_map (λ x. (x, value p.value)) (numbered names p.variable)) ps; known = list_all (λ p. has_text p.variable names) ps }

-- a step
abbrev pub step_in : Graph → WrittenStep → StepContent
step_in g s = record { label = numbered (edge_names g) s.label; writes = assigned_in (variable_names g) shown_value (option_map_or (λ ps. ps) s.writes []) }

-- what a line says, with the numbers of its names
abbrev pub statement_in : Graph → Written → LogContent
statement_in g (ASession n) = SessionLine n
statement_in g (ALog role) = LogHeadLine (numbered g.roles role)
statement_in g (AnEvent sent label time values) = EventLine sent (numbered (edge_names g) label) time (assigned_in (variable_names g) value_of values)
statement_in g (AWalk steps) = WalkLine (map (step_in g) steps)

-- the words are those of a line, each field of which holds what it may hold, and they say this of the graph
pub record Says (g : Graph) (ws : List Word) (statement : LogContent) : Type 0 where
  pub written : Written
  pub spelled : ws ≡ line_words written
  pub form : is_form written ≡ true
  pub says : statement_in g written ≡ statement
