-- The step of a craft, part by part, if all its names are declared.
use Rattle.std.specs.Prelude.{ℕ, suc, ◌+◌, ◌*◌, nat_lt, Bool, true, not, ◌&&◌, if◌then◌else◌, List, [], ◌∷◌, length, position, bytes_eq, Option, Some, None, option_map, option_and_then, unwrap_or}
use Rattle.std.specs.Option.{option_map_or}
use Rattle.sg_model.specs.Last.{Map}
use Rattle.sg_model.specs.Names.{Name}
use Rattle.sg_model.specs.Values.{Opening}
use Rattle.sg_protocol.specs.Graph.{Graph}
use Rattle.sg_protocol.specs.Frame.{tag_len}
use Rattle.sg_protocol.specs.Spelling.{value_bytes}
use Rattle.sg_protocol.specs.Schedule.{confounder, CraftJoin, Source, Key, CopyItem, CopySeal, Zero, CraftItem, Step, CraftStep}
use Rattle.sg_sched.specs.Format.LineContents.{Committed, TagSource, FromKey, FromItem, FromSeal, FromZero, ItemContent, CraftContent}
use Rattle.sg_sched.specs.Format.Values.{value_of}
use Rattle.sg_sched.specs.Format.Items.{Session, SoFar, roles_of, variables_of, labels_of, has_key}
use Rattle.sg_sched_text.specs.Adding.{session_index}
use Rattle.sg_sched_text.specs.Numbers.{all_made}

-- ---- what is made

-- an opening of the variable of this number
abbrev pub opening_of : Committed → ℕ → Opening
opening_of c x = record { variable = x; confounder = confounder c.step x; value = value_of c.value }

-- an opening, if its variable is declared
abbrev pub known_opening : Option Graph → Committed → Option Opening
known_opening g c = option_map (opening_of c) (position (bytes_eq c.variable) (variables_of g))

-- a role, if it is declared
abbrev pub known_role : Option Graph → Name → Option ℕ
known_role g n = position (bytes_eq n) (roles_of g)

-- a source, if its pair or its role is declared
abbrev pub known_source : SoFar → Option Graph → TagSource → Option Source
known_source past g (FromKey one two) = if has_key past one two then Some (Key one two) else None
known_source past g (FromItem frame item role) = option_map (CopyItem frame item) (known_role g role)
known_source past g (FromSeal frame) = Some (CopySeal frame)
known_source past g FromZero = Some Zero

-- this role with this source
abbrev pub tag_of : ℕ → Source → ℕ × Source
tag_of role source = (role, source)

-- a role and its source
abbrev pub known_tag : SoFar → Option Graph → Name × TagSource → Option (ℕ × Source)
known_tag past g t = option_and_then (λ r. option_map (tag_of r) (known_source past g t.1)) (known_role g t.0)

-- an item of these parts
abbrev pub item_of : ItemContent → ℕ → List Opening → Map Source → CraftItem
item_of i label delta tags = record { label = label; time = i.time; delta = delta; tags = tags }

-- an item
abbrev pub known_item : SoFar → Option Graph → ItemContent → Option CraftItem
known_item past g i =
    option_and_then (λ l. option_and_then (λ ds. option_map (item_of i l ds) (all_made (known_tag past g) i.tags)) (all_made (known_opening g) i.delta))
    (position (bytes_eq i.label) (labels_of g))

-- the lists of a craft
pub record Lists : Type 0 where
  pub know : List Opening
  pub items : List CraftItem
  pub openings : List Opening

-- these lists
abbrev pub lists_of : List Opening → List CraftItem → List Opening → Lists
lists_of know items openings = record { know = know; items = items; openings = openings }

-- the lists, if all their names are declared
abbrev pub known_lists : SoFar → Option Graph → CraftContent → Option Lists
known_lists past g c =
    option_and_then (λ ks. option_and_then (λ is. option_map (lists_of ks is) (all_made (known_opening g) c.openings))
    (all_made (known_item past g) c.items)) (all_made (known_opening g) c.know)

-- a session and two roles
abbrev pub ends_of : ℕ → ℕ → ℕ → ℕ × (ℕ × ℕ)
ends_of session from to = (session, (from, to))

-- the session and the roles of a craft, if they are declared
abbrev pub known_ends : SoFar → Option Graph → CraftContent → Option (ℕ × (ℕ × ℕ))
known_ends past g c = option_and_then (λ s. option_and_then (λ f. option_map (ends_of s f) (known_role g c.to)) (known_role g c.from)) (session_index past c.session)

-- the craft of these parts
abbrev pub craft_of : CraftContent → ℕ × (ℕ × ℕ) → Lists → Source → Step
craft_of c ends lists seal = CraftStep (record {
  session = ends.0;
  from = ends.1.0;
  to = ends.1.1;
  join = c.join;
  know = lists.know;
  items = lists.items;
  openings = lists.openings;
  seal = seal;
})

-- the step of a craft
abbrev pub craft_step : SoFar → Option Graph → CraftContent → Option Step
craft_step past g c = option_and_then (λ ends. option_and_then (λ lists. option_map (craft_of c ends lists) (known_source past g c.seal)) (known_lists past g c)) (known_ends past g c)

-- ---- what rises

-- the numbers that are left rise from `least` on if those before them rose, or one of them isn't declared
abbrev pub rise_on : Bool → ℕ → List Name → List Name → Bool
rise_on rose least [] declared = rose
rise_on rose least (n ∷ ns) declared = option_map_or (λ x. rise_on (rose && not (nat_lt x least)) (suc x) ns declared) (position (bytes_eq n) declared) true

-- ---- how long a frame is

-- the lengths of all together
abbrev pub lens : {A : Type 0} → (A → ℕ) → List A → ℕ
lens len [] = 0
lens len (x ∷ xs) = len x + lens len xs

-- the bytes of an opening
abbrev pub opening_len : Committed → ℕ
opening_len c = 22 + length (value_bytes (value_of c.value))

-- the bytes of an item
abbrev pub item_len : ℕ → ItemContent → ℕ
item_len version i = 9 + 33 * length i.delta + (1 + tag_len version) * length i.tags

-- the bytes of a name
abbrev pub name_len : Name → ℕ
name_len n = 1 + length n

-- the bytes of a cast in a frame that joins
abbrev pub join_len : List Name → Option CraftJoin → ℕ
join_len names join = option_map_or (λ j. 49 + lens name_len (unwrap_or j.names names)) join 0

-- the bytes of a crafted frame
abbrev pub frame_len : Session → CraftContent → ℕ
frame_len s c = 42 + join_len s.names c.join + lens (item_len s.version) c.items + lens opening_len c.openings + tag_len s.version
