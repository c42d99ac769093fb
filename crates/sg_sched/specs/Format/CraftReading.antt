-- How the words of a craft are read, one after the other.
use Rattle.std.specs.Prelude.{ℕ, zero, suc, ◌==◌, nat_le, ◌&&◌, Bool, false, if◌then◌else◌, List, [], ◌∷◌, length, codes, bytes_eq, Option, Some, None, option_map, option_and_then}
use Rattle.std.specs.List.{list_all, slice_split}
use Rattle.sg_model.specs.Names.{Name, is_name}
use Rattle.sg_model.specs.Limits.{most_roles, most_time, most_variables}
use Rattle.sg_protocol.specs.Schedule.{CraftJoin}
use Rattle.sg_base.specs.Words.{name, number}
use Rattle.sg_sched.specs.Words.{frame}
use Rattle.sg_sched.specs.Format.LineContents.{Word, Committed, TagSource, FromKey, FromItem, FromSeal, FromZero, ItemContent, LineContent, MakeLine}
use Rattle.sg_sched.specs.Format.Values.{is_value}
use Rattle.sg_sched.specs.Format.Reading.{WordsLeft, Taker, word, after, ended, split_at}

-- ---- words

-- a byte before what is split, or the last mark itself
abbrev pub last_step : ℕ → ℕ → Word → Option (Word × Word) → Option (Word × Word)
last_step mark c cs (Some p) = Some (c ∷ p.0, p.1)
last_step mark c cs None = if c == mark then Some ([], cs) else None

-- what stands before the last byte `mark` and after it
abbrev pub split_last : ℕ → Word → Option (Word × Word)
split_last mark [] = None
split_last mark (c ∷ cs) = last_step mark c cs (split_last mark cs)

-- a value, and the number of a step
abbrev pub behind_equal : Name → Word × Word → Option Committed
behind_equal variable p = if is_name variable && is_value p.0 then option_map (λ k. record { variable = variable; value = p.0; step = k }) (number 18446744073709551615 p.1) else None

-- VAR=VALUE#K
unfoldable pub committed : Word → Option Committed
committed w = option_and_then (λ (p : Word × Word). option_and_then (behind_equal p.0) (split_last 35 p.1)) (split_at 61 w)

-- names
abbrev pub all_names : List Word → Option (List Name)
all_names parts = if list_all is_name parts then Some parts else None

-- NAME,NAME,..
abbrev pub name_list : Word → Option (List Name)
name_list w = all_names (slice_split (λ b. b == 44) w)

-- 2 to 16 of them
abbrev pub sixteen : List Name → Option (List Name)
sixteen names = if nat_le 2 (length names) && nat_le (length names) most_roles then Some names else None

-- NAME,NAME,.. of 2 to 16 names
unfoldable pub cast : Word → Option (List Name)
cast w = option_and_then sixteen (name_list w)

-- this word alone
abbrev pub exactly : List ℕ → Word → Option (Unit {0})
exactly first w = if bytes_eq w first then Some tt else None

-- a time from 1 to 1,000,000
unfoldable pub time : Word → Option ℕ
time w = option_and_then (λ t. if nat_le 1 t then Some t else None) (number most_time w)

-- the next word is this one
abbrev pub is_next : List ℕ → WordsLeft → Bool
is_next first [] = false
is_next first (w ∷ ws) = bytes_eq w first

-- ---- commitments

-- a commitment before those that follow, or none
abbrev pub run_step : Word → WordsLeft → Option Committed → List Committed × WordsLeft → List Committed × WordsLeft
run_step w ws None r = ([], w ∷ ws)
run_step w ws (Some c) r = (c ∷ r.0, r.1)

-- the commitments that stand first, and the words after them
abbrev pub run : WordsLeft → List Committed × WordsLeft
run [] = ([], [])
run (w ∷ ws) = run_step w ws (committed w) (run ws)

-- at most 32 of them
abbrev pub few : List Committed × WordsLeft → Option (List Committed × WordsLeft)
few r = if nat_le (length r.0) most_variables then Some r else None

-- one commitment or more
abbrev pub some_of : List Committed × WordsLeft → Option (List Committed × WordsLeft)
some_of r = if length r.0 == 0 then None else Some r

-- the word and one commitment or more after it, or nothing
unfoldable pub listed : List ℕ → Taker (List Committed)
listed first [] = Some ([], [])
listed first (w ∷ ws) = if bytes_eq w first then some_of (run ws) else Some ([], w ∷ ws)

-- ---- sources

-- seal, or I ROLE
unfoldable pub copy_source : ℕ → Taker TagSource
copy_source n [] = None
copy_source n (w ∷ ws) = if bytes_eq w (codes "seal") then Some (FromSeal n, ws)
    else option_and_then (λ item. after (word name) (λ role rest. Some (FromItem n item role, rest)) ws) (number 4294967295 w)

-- key NAME NAME, copy fN I ROLE, copy fN seal, zero
unfoldable pub source : Taker TagSource
source [] = None
source (w ∷ ws) =
    if bytes_eq w (codes "key") then after (word name) (λ one. after (word name) (λ two rest. Some (FromKey one two, rest))) ws
    else if bytes_eq w (codes "copy") then after (word frame) copy_source ws
    else if bytes_eq w (codes "zero") then Some (FromZero, ws)
    else None

-- ---- items

-- what was found, before what more there is
abbrev pub more_after : {A : Type 0} → A → Option (List A × WordsLeft) → Option (List A × WordsLeft)
more_after {A} x o = option_map (λ (p : List A × WordsLeft). (x ∷ p.0, p.1)) o

-- the word and what is after it, up to n times
abbrev pub repeated : {A : Type 0} → List ℕ → Taker A → ℕ → Taker (List A)
repeated first take zero ws = Some ([], ws)
repeated first take (suc n) [] = Some ([], [])
repeated first take (suc n) (w ∷ ws) = if bytes_eq w first then after take (λ x rest. more_after x (repeated first take n rest)) ws else Some ([], w ∷ ws)

-- a tag, after its first word
unfoldable pub tag : Taker (Name × TagSource)
tag =
    after (word name) λ role.
    after source λ s rest.
    Some ((role, s), rest)

-- an item, after its first word
unfoldable pub item : Taker ItemContent
item =
    after (word name) λ label.
    after (word time) λ t.
    after (λ ws. few (run ws)) λ delta.
    after (repeated (codes "tag") tag 14) λ tags rest.
    Some (record { label = label; time = t; delta = delta; tags = tags }, rest)

-- ---- join

-- the word and its argument, or nothing
abbrev pub optional : {A : Type 0} → List ℕ → (Word → Option A) → Taker (Option A)
optional first read [] = Some (None, [])
optional first read (w ∷ ws) = if bytes_eq w first then after (word read) (λ x rest. Some (Some x, rest)) ws else Some (None, w ∷ ws)

-- [nonce N] [cast NAME,..]
unfoldable pub join_parts : Taker (Option CraftJoin)
join_parts =
    after (optional (codes "nonce") (number 18446744073709551615)) λ nonce.
    after (optional (codes "cast") cast) λ names rest.
    Some (Some (record { nonce = nonce; names = names }), rest)

-- [join [nonce N] [cast NAME,..]]
unfoldable pub join : Taker (Option CraftJoin)
join [] = Some (None, [])
join (w ∷ ws) = if bytes_eq w (codes "join") then join_parts ws else Some (None, w ∷ ws)

-- ---- the craft, after its first word

-- openings, at most 32
abbrev pub opened : Taker (List Committed)
opened ws = option_and_then few (listed (codes "open") ws)

-- the ends, if they differ
abbrev pub ends_of : Name → Name → Name → WordsLeft → Option ((Name × Name × Name) × WordsLeft)
ends_of session from to rest = if bytes_eq from to then None else Some ((session, from, to), rest)

-- SESSION from ROLE to ROLE, two different ones
unfoldable pub ends : Taker (Name × Name × Name)
ends =
    after (word name) λ session.
    after (word (exactly (codes "from"))) λ _.
    after (word name) λ from.
    after (word (exactly (codes "to"))) λ _.
    after (word name) λ to.
    ends_of session from to

-- seal SOURCE, and no more
unfoldable pub seal_form : WordsLeft → Option TagSource
seal_form =
    after (word (exactly (codes "seal"))) λ _.
    after source λ seal.
    ended (Some seal)

-- one item or more
abbrev pub some_items : List ItemContent × WordsLeft → Option (List ItemContent × WordsLeft)
some_items r = if length r.0 == 0 then None else Some r

-- item .., one or more
abbrev pub items : Taker (List ItemContent)
items ws = option_and_then some_items (repeated (codes "item") item 65535 ws)

-- [know ..] item .. [open ..]
unfoldable pub lists : Taker (List Committed × List ItemContent × List Committed)
lists =
    after (listed (codes "know")) λ know.
    after items λ is.
    after opened λ openings rest.
    Some ((know, is, openings), rest)

-- SESSION from ROLE to ROLE [join ..] [know ..] item .. [open ..] seal SOURCE
unfoldable pub craft_form : WordsLeft → Option LineContent
craft_form =
    after ends λ e.
    after join λ j.
    after lists λ l.
    λ ws. option_map (λ seal. MakeLine (record { session = e.0; from = e.1; to = e.2; join = j; know = l.0; items = l.1; openings = l.2; seal = seal })) (seal_form ws)
