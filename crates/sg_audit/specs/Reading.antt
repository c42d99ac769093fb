-- How the words of a line of a log file are read.
use Rattle.std.specs.Prelude.{ℕ, suc, ◌==◌, ◌-◌, Bool, true, false, not, if◌then◌else◌, List, [], ◌∷◌, length, take, slice_index, codes, bytes_eq, Option, Some, None, option_map, option_and_then}
use Rattle.std.specs.List.{onto_first}
use Rattle.sg_model.specs.Names.{Name, is_name}
use Rattle.sg_model.specs.Values.{Value}
use Rattle.sg_model.specs.Limits.{most_time}
use Rattle.sg_base.specs.Words.{number, from_one, name}
use Rattle.sg_protocol.specs.Graph.{Graph}
use Rattle.sg_graph.specs.Parts.{variable_names, edge_names}
use Rattle.sg_sched.specs.Format.LineContents.{Word}
use Rattle.sg_sched.specs.Format.Values.{spelled_value}
use Rattle.sg_sched.specs.Format.Reading.{WordsLeft, word, after, ended, split_at}
use Rattle.sg_audit.specs.LineContents.{Assignments, StepContent, LogContent, SessionLine, LogHeadLine, EventLine, WalkLine, numbered, nothing_assigned, one_assigned, both_assigned}

-- ---- variables with values

-- a name, and what stands after it
abbrev pub as_named : {A : Type 0} → List Name → (Word → Option A) → Word × Word → Option (Assignments A)
as_named names read p = if is_name p.0 then option_map (one_assigned names p.0) (read p.1) else None

-- VAR=VALUE, by a reader of the value
unfoldable pub assigned : {A : Type 0} → List Name → (Word → Option A) → Word → Option (Assignments A)
assigned names read w = option_and_then (as_named names read) (split_at 61 w)

-- each word is VAR=VALUE
abbrev pub all_assigned : {A : Type 0} → List Name → (Word → Option A) → List Word → Option (Assignments A)
all_assigned names read [] = Some nothing_assigned
all_assigned names read (w ∷ ws) = option_and_then (λ v. option_map (both_assigned v) (all_assigned names read ws)) (assigned names read w)

-- a value, or ? for a hidden one
unfoldable pub shown_or_hidden : Word → Option (Option Value)
shown_or_hidden w = if bytes_eq w (codes "?") then Some None else option_map (λ v. Some v) (spelled_value w)

-- ---- steps of a walk

-- the parts between commas that stand outside double quotes; the flag says whether a quote is open
abbrev pub parts : Bool → Word → List Word
parts quoted [] = [] ∷ []
parts quoted (c ∷ cs) =
    if c == 34 then onto_first c (parts (not quoted) cs)
    else if quoted then onto_first c (parts quoted cs)
    else if c == 44 then [] ∷ parts quoted cs
    else onto_first c (parts quoted cs)

-- how many bytes stand before the first comma outside double quotes, or in all
abbrev pub part_end : Bool → Word → ℕ
part_end quoted [] = 0
part_end quoted (c ∷ cs) =
    if c == 34 then suc (part_end (not quoted) cs)
    else if quoted then suc (part_end quoted cs)
    else if c == 44 then 0
    else suc (part_end quoted cs)

-- what stands before the last byte, if that is )
abbrev pub unclosed : Word → Option Word
unclosed w = if slice_index w (length w - 1) == 41 then Some (take (length w - 1) w) else None

-- what a step writes, after its (
abbrev pub written : List Name → Word → Option (Assignments (Option Value))
written names w = option_and_then (λ inner. all_assigned names shown_or_hidden (parts false inner)) (unclosed w)

-- a label alone, or LABEL(VAR=VALUE,..)
abbrev pub labelled : Graph → Word → Option (Word × Word) → Option StepContent
labelled g w None = if is_name w then Some (record { label = numbered (edge_names g) w; writes = nothing_assigned }) else None
labelled g w (Some p) = if is_name p.0 then option_map (λ writes. record { label = numbered (edge_names g) p.0; writes = writes }) (written (variable_names g) p.1) else None

-- the word without a * in front
abbrev pub unstarred : Word → Word
unstarred [] = []
unstarred (c ∷ cs) = if c == 42 then cs else (c ∷ cs)

-- a step of a walk, with or without *
unfoldable pub step : Graph → Word → Option StepContent
step g w = labelled g (unstarred w) (split_at 40 (unstarred w))

-- each word is a step
abbrev pub steps : Graph → List Word → Option (List StepContent)
steps g [] = Some []
steps g (w ∷ ws) = option_and_then (λ s. option_map (λ ss. s ∷ ss) (steps g ws)) (step g w)

-- ---- forms, each after its first word

-- session NAME
unfoldable pub session_form : WordsLeft → Option LogContent
session_form =
    after (word name) λ n.
    ended (Some (SessionLine n))

-- log ROLE
unfoldable pub log_form : Graph → WordsLeft → Option LogContent
log_form g =
    after (word name) λ n.
    ended (Some (LogHeadLine (numbered g.roles n)))

-- a time, from 1 to 1,000,000
unfoldable pub time : Word → Option ℕ
time w = option_and_then from_one (number most_time w)

-- sent LABEL TIME VAR=VALUE .., and the same of received
unfoldable pub event_form : Graph → Bool → WordsLeft → Option LogContent
event_form g sent =
    after (word name) λ label.
    after (word time) λ at.
    λ ws. option_map (EventLine sent (numbered (edge_names g) label) at) (all_assigned (variable_names g) spelled_value ws)

-- walk STEP ..
unfoldable pub walk_form : Graph → WordsLeft → Option LogContent
walk_form g ws = option_map WalkLine (steps g ws)

-- a line by its first word
unfoldable pub form : Graph → WordsLeft → Option LogContent
form g [] = None
form g (w ∷ ws) =
    if bytes_eq w (codes "session") then session_form ws
    else if bytes_eq w (codes "log") then log_form g ws
    else if bytes_eq w (codes "sent") then event_form g true ws
    else if bytes_eq w (codes "received") then event_form g false ws
    else if bytes_eq w (codes "walk") then walk_form g ws
    else None
