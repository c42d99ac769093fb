-- The script: what the data of its TOML text spell beside the programs that the principal has, or the first fault.
use Rattle.std.specs.Prelude.{◌≡◌, ℕ, ◌+◌, ℤ, pos, ◌&&◌, IsTrue, nat_le, bytes_eq, if◌then◌else◌, List, [], ◌∷◌, length, map, filter_map, find, position, get_or, codes, Option, Some, None, is_some, option_map, option_and_then, Result, Ok, Err}
use Rattle.toml.specs.Data.{Data, string, integer, Members, get_member, as_str, as_integer, as_array, as_table}
use Rattle.sg_base.specs.Words.{name}
use Rattle.sg_graph.specs.Parts.{variable_names, node_names, edge_names}
use Rattle.sg_keys.specs.KeyFile.{all_keys, at, document, has_keys_alone, list_of, tables_of}
use Rattle.sg_model.specs.Last.{Map}
use Rattle.sg_model.specs.Lists.{below}
use Rattle.sg_model.specs.Names.{Name}
use Rattle.sg_model.specs.Values.{Value, IntValue, TextValue}
use Rattle.sg_model.specs.Limits.{most_roles, most_text_bytes, most_times}
use Rattle.sg_protocol.specs.Graph.{Graph}
use Rattle.sg_protocol.specs.Keyring.{Program}
use Rattle.sg_program.specs.Together.{is_named}
use Rattle.sg_script.specs.Script.{Start, Choice, Script}
use Rattle.sg_script.specs.declared.fault.ScriptFault.{ScriptFault}
use Rattle.sg_script.specs.declared.fault.ScriptFault.TheVariants.{NotToml, BadStart, BadChoice}

-- ---- parts of an entry

-- a number that is neither too small nor too large
abbrev pub between : ℕ → ℕ → ℤ → Option ℕ
between least most (pos n) = if nat_le least n && nat_le n most then Some n else None
between least most z = None

-- the number of an entry, or one that stands for it if it is missing
abbrev pub number_or : ℕ → ℕ → ℕ → Option Data → Option ℕ
number_or missing least most None = Some missing
number_or missing least most (Some d) = option_and_then (between least most) (as_integer d)

-- the name that a text is
abbrev pub name_of : Data → Option Name
name_of d = option_and_then name (as_str d)

-- a list of what is there, if each is there
abbrev pub all_there : {A : Type 0} → List (Option A) → Option (List A)
all_there [] = Some []
all_there (None ∷ os) = None
all_there (Some x ∷ os) = option_map (λ xs. x ∷ xs) (all_there os)

-- names in order, 2 to 16
abbrev pub cast_in : List Data → Option (List Name)
cast_in ds = if nat_le 2 (length ds) && nat_le (length ds) most_roles then all_there (map name_of ds) else None

-- the cast of an entry
abbrev pub cast_of : Option Data → Option (List Name)
cast_of None = None
cast_of (Some d) = option_and_then (λ items. cast_in (list_of items)) (as_array d)

-- the graph of this name, as the first program of such a graph has it
abbrev pub graph_named : List Program → Name → Option Graph
graph_named programs n = option_map (λ p. p.graph) (find (is_named n) programs)

-- the number of a text among names, if it is one of them
abbrev pub number_of : List Name → List ℕ → Option ℕ
number_of names text = option_and_then (λ n. position (bytes_eq n) names) (name text)

-- ---- values

-- an integer, or a text of at most 1,024 bytes
abbrev pub spelled_value : Data → Option Value
spelled_value (integer z) = Some (IntValue z)
spelled_value (string s) = if nat_le (length s) most_text_bytes then Some (TextValue s) else None
spelled_value _ = None

-- what a variable is given, if its name is a key: itself with its value, or nothing if that is no value
abbrev pub given : List Name → Members → ℕ → Option (Option (ℕ × Value))
given names table x = option_map (λ d. option_map (λ v. (x, v)) (spelled_value d)) (get_member (get_or names x []) table)

-- each key is a variable's name: the variables with their values, in rising order
abbrev pub values_in : List Name → Members → Option (Map Value)
values_in names table =
    if all_keys (λ k. is_some (number_of names k)) table then all_there (filter_map (given names table) (below (length names))) else None

-- the values of an entry, none if they are missing
abbrev pub values_or_none : List Name → Option Data → Option (Map Value)
values_or_none names None = Some []
values_or_none names (Some d) = option_and_then (values_in names) (as_table d)

-- ---- starts

-- the keys of a start
abbrev pub start_keys : List (List ℕ)
start_keys = codes "graph" ∷ codes "cast" ∷ codes "version" ∷ []

-- a start of its parts, if a program of its graph is there
abbrev pub start_from : List Program → Option Name → Option ℕ → Option (List Name) → Option Start
start_from programs (Some n) (Some v) (Some c) = if is_some (graph_named programs n) then Some (record { graph = n; version = v; cast = c }) else None
start_from programs _ _ _ = None

-- a table with a graph, a cast and maybe a version
abbrev pub start_in : List Program → Members → Option Start
start_in programs table =
    if has_keys_alone start_keys table
    then start_from programs (at name (codes "graph") table) (number_or 1 1 2 (get_member (codes "version") table)) (cast_of (get_member (codes "cast") table))
    else None

-- the start of an entry
unfoldable pub start_of : List Program → Data → Option Start
start_of programs d = option_and_then (start_in programs) (as_table d)

-- ---- choices

-- the keys of a choice
abbrev pub choice_keys : List (List ℕ)
choice_keys = codes "graph" ∷ codes "node" ∷ codes "label" ∷ codes "values" ∷ codes "times" ∷ []

-- a choice of its parts
abbrev pub choice_from : Name → Option ℕ → Option ℕ → Option (Map Value) → Option ℕ → Option Choice
choice_from n (Some m) (Some l) (Some vs) (Some t) = Some (record { graph = n; node = m; label = l; values = vs; times = t })
choice_from n _ _ _ _ = None

-- a table with a node and a label of this graph, and maybe values and times
abbrev pub choice_at : Members → Name → Graph → Option Choice
choice_at table n g =
    choice_from n (at (number_of (node_names g)) (codes "node") table) (at (number_of (edge_names g)) (codes "label") table)
    (values_or_none (variable_names g) (get_member (codes "values") table)) (number_or 1 1 most_times (get_member (codes "times") table))

-- a table with a graph of which a program is there
abbrev pub choice_in : List Program → Members → Option Choice
choice_in programs table =
    if has_keys_alone choice_keys table
    then option_and_then (λ n. option_and_then (choice_at table n) (graph_named programs n)) (at name (codes "graph") table)
    else None

-- the choice of an entry
unfoldable pub choice_of : List Program → Data → Option Choice
choice_of programs d = option_and_then (choice_in programs) (as_table d)

-- ---- what the file spells

-- the keys of a script
abbrev pub script_keys : List (List ℕ)
script_keys = codes "start" ∷ codes "choice" ∷ []

-- the data spell the script: lists of tables at `start` and `choice` and at no other key, and each table a start or a choice, in order
pub record SpellsTable (programs : List Program) (table : Members) (s : Script) : Type 0 where
  pub alone : IsTrue (has_keys_alone script_keys table)
  pub starts : List Data
  pub choices : List Data
  pub start_list : tables_of (get_member (codes "start") table) ≡ Some starts
  pub choice_list : tables_of (get_member (codes "choice") table) ≡ Some choices
  pub each_start : map (start_of programs) starts ≡ map Some s.starts
  pub each_choice : map (choice_of programs) choices ≡ map Some s.choices

-- the bytes of a script spell it beside these programs
abbrev pub SpellsScript : List Program → List ℕ → Script → Type 0
SpellsScript programs bytes s = (table : Members) × (document bytes ≡ Some table) × SpellsTable programs table s

-- ---- the first fault

-- the second step, if the first gave something
abbrev pub then_with : {A B : Type 0} → Result A ScriptFault → (A → Result B ScriptFault) → Result B ScriptFault
then_with (Ok x) next = next x
then_with (Err fault) next = Err fault

-- what is there from this number on, if each is there, or the fault of the first number at which it isn't
abbrev pub each_from : {A : Type 0} → (ℕ → ScriptFault) → ℕ → List (Option A) → Result (List A) ScriptFault
each_from fault i [] = Ok []
each_from fault i (None ∷ os) = Err (fault i)
each_from fault i (Some x ∷ os) = then_with (each_from fault (i + 1) os) (λ xs. Ok (x ∷ xs))

-- the entries of a list of tables, counted from 1. If it is none, the fault has number 0
abbrev pub entries : {A : Type 0} → (ℕ → ScriptFault) → (Data → Option A) → Option (List Data) → Result (List A) ScriptFault
entries fault read None = Err (fault 0)
entries fault read (Some ds) = each_from fault 1 (map read ds)

-- the list of starts, if nothing stands beside `start` and `choice`
abbrev pub starts_of : Members → Option (List Data)
starts_of table = if has_keys_alone script_keys table then tables_of (get_member (codes "start") table) else None

-- the answer to a table: the starts go before the choices
abbrev pub answer_to_table : List Program → Members → Result Script ScriptFault
answer_to_table programs table =
    then_with (entries BadStart (start_of programs) (starts_of table)) λ starts.
    then_with (entries BadChoice (choice_of programs) (tables_of (get_member (codes "choice") table))) λ choices.
    Ok (record { starts = starts; choices = choices })

-- the answer to a document
abbrev pub answer_to : List Program → Option Members → Result Script ScriptFault
answer_to programs None = Err NotToml
answer_to programs (Some table) = answer_to_table programs table

-- the script that the bytes spell beside these programs, or the first fault
abbrev pub script_file : List Program → List ℕ → Result Script ScriptFault
script_file programs bytes = answer_to programs (document bytes)
