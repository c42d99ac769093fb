-- What sessions are called, and the order in which they stand.
use Rattle.std.specs.Prelude.{ℕ, ◌+◌, not, List, [], ◌∷◌, ◌++◌, map, filter, find, position, length, bytes_eq}
use Rattle.std.specs.Fmt.{decimal}
use Rattle.std.specs.Option.{option_map_or}
use Rattle.sg_model.specs.Lists.{has_text}
use Rattle.sg_model.specs.Names.{Name}

-- each text where it stands first
abbrev pub firsts : List (List ℕ) → List (List ℕ)
firsts [] = []
firsts (t ∷ ts) = t ∷ filter (λ s. not (bytes_eq s t)) (firsts ts)

-- the declared sessions by name and sid, and the sids of the events in their order
pub record KnownSessions : Type 0 where
  pub declared : List (Name × List ℕ)
  pub events : List (List ℕ)

-- the sids of the declared sessions
abbrev pub declared_sids : KnownSessions → List (List ℕ)
declared_sids m = map (λ (d : Name × List ℕ). d.1) m.declared

-- the sids that are not declared, in the order of their first events
abbrev pub undeclared : KnownSessions → List (List ℕ)
undeclared m = filter (λ sid. not (has_text sid (declared_sids m))) (firsts m.events)

-- the sids of all sessions: the declared ones in order, then the others
abbrev pub all_sids : KnownSessions → List (List ℕ)
all_sids m = firsts (declared_sids m) ++ undeclared m

-- the sids of the sessions with an event, in this order
abbrev pub sids_known : KnownSessions → List (List ℕ)
sids_known m = filter (λ sid. has_text sid m.events) (all_sids m)

-- a letter and a number
abbrev pub numbered : ℕ → ℕ → Name
numbered letter n = letter ∷ decimal n

-- the first declared name of a session, or a letter and its number among the others, counted from 1. Nothing if there is no such session
abbrev pub session_name : (letter : ℕ) → KnownSessions → List ℕ → Name
session_name letter m sid = option_map_or (λ (d : Name × List ℕ). d.0) (find (λ (d : Name × List ℕ). bytes_eq d.1 sid) m.declared)
    (option_map_or (λ n. numbered letter (n + 1)) (position (bytes_eq sid) (undeclared m)) [])

-- ---- as a table

-- the letter, how many sids are declared, and each sid with its name
pub record Naming : Type 0 where
  pub letter : ℕ
  pub declared : ℕ
  pub names : List (List ℕ × Name)

-- the table of all sids
abbrev pub naming : (letter : ℕ) → KnownSessions → Naming
naming letter m = record { letter = letter; declared = length (firsts (declared_sids m)); names = map (λ sid. (sid, session_name letter m sid)) (all_sids m) }

-- the sessions with one more declared, or one more event
abbrev pub with_declared : KnownSessions → Name → List ℕ → KnownSessions
with_declared m name sid = record m { declared = m.declared ++ (name, sid) ∷ [] }

abbrev pub with_event : KnownSessions → List ℕ → KnownSessions
with_event m sid = record m { events = m.events ++ sid ∷ [] }
