-- What a line says, word by word: names as they stand, numbers, and values and hexadecimal digits as they are written.
use Rattle.std.specs.Prelude.{ℕ, List, [], ◌∷◌, ◌++◌, map, flat_map, codes, Option, Some, None, option_map, ◌==◌, if◌then◌else◌}
use Rattle.std.specs.Fmt.{decimal}
use Rattle.sg_model.specs.Names.{Name}
use Rattle.sg_protocol.specs.Schedule.{CraftJoin}

-- a word as it is written
abbrev pub Word : Type 0
Word = List ℕ

-- VAR=VALUE
pub record Assignment : Type 0 where
  pub variable : Name
  pub value : Word

-- VAR=VALUE#K: the opening of a variable with the confounder of step K
pub record Committed : Type 0 where
  pub variable : Name
  pub value : Word
  pub step : ℕ

-- SOURCE: where a crafted tag comes from
pub data TagSource : Type 0 where
  FromKey : (one two : Name) → TagSource
  FromItem : (frame item : ℕ) (role : Name) → TagSource
  FromSeal : (frame : ℕ) → TagSource
  FromZero : TagSource

-- item LABEL TIME [COMMITTED ..] [tag ROLE SOURCE ..]
pub record ItemContent : Type 0 where
  pub label : Name
  pub time : ℕ
  pub delta : List Committed
  pub tags : List (Name × TagSource)

-- the words of a craft
pub record CraftContent : Type 0 where
  pub session : Name
  pub from : Name
  pub to : Name
  pub join : Option CraftJoin
  pub know : List Committed
  pub items : List ItemContent
  pub openings : List Committed
  pub seal : TagSource

-- what is delivered: a recorded frame, whole, changed in a bit or cut short, or bytes in hexadecimal digits
pub data Delivered : Type 0 where
  TheFrame : (number : ℕ) → Delivered
  TheFlipped : (number at : ℕ) → Delivered
  TheCut : (number len : ℕ) → Delivered
  TheBytes : Word → Delivered

-- what a line says: a block of graph text begins, a declaration, or a step
pub data LineContent : Type 0 where
  BlockLine : LineContent
  EdgeLine : (label : Name) (from to : ℕ) → LineContent
  HonestLine : Name → LineContent
  KeyLine : (one two : Name) (digits : Word) → LineContent
  SessionLine : (name graph : Name) (nonce : ℕ) (names : List Name) (version : ℕ) → LineContent
  StartLine : (who session : Name) → LineContent
  ActLine : (who session label : Name) (values : List Assignment) → LineContent
  AbandonLine : (who session : Name) → LineContent
  DeliverLine : (who : Name) → Delivered → LineContent
  MakeLine : CraftContent → LineContent

-- ---- the words

-- NAME,NAME,..
abbrev pub joined_names : List Name → Word
joined_names [] = []
joined_names (n ∷ []) = n
joined_names (n ∷ ns) = n ++ 44 ∷ joined_names ns

-- fN
abbrev pub frame_word : ℕ → Word
frame_word n = 102 ∷ decimal n

-- VAR=VALUE
abbrev pub assignment_word : Assignment → Word
assignment_word v = v.variable ++ 61 ∷ v.value

-- VAR=VALUE#K
abbrev pub committed_word : Committed → Word
committed_word c = c.variable ++ 61 ∷ (c.value ++ 35 ∷ decimal c.step)

-- SOURCE
abbrev pub from_words : TagSource → List Word
from_words (FromKey one two) = codes "key" ∷ one ∷ two ∷ []
from_words (FromItem frame item role) = codes "copy" ∷ frame_word frame ∷ decimal item ∷ role ∷ []
from_words (FromSeal frame) = codes "copy" ∷ frame_word frame ∷ codes "seal" ∷ []
from_words FromZero = codes "zero" ∷ []

-- tag ROLE SOURCE
abbrev pub tag_words : Name × TagSource → List Word
tag_words t = codes "tag" ∷ t.0 ∷ from_words t.1

-- item LABEL TIME [COMMITTED ..] [tag ROLE SOURCE ..]
abbrev pub item_words : ItemContent → List Word
item_words i = codes "item" ∷ i.label ∷ decimal i.time ∷ (map committed_word i.delta ++ flat_map tag_words i.tags)

-- the word and its argument, or nothing
abbrev pub option_words : List ℕ → Option Word → List Word
option_words first None = []
option_words first (Some w) = first ∷ w ∷ []

-- [join [nonce N] [cast NAME,..]]
abbrev pub join_words : Option CraftJoin → List Word
join_words None = []
join_words (Some j) = codes "join" ∷ (option_words (codes "nonce") (option_map decimal j.nonce) ++ option_words (codes "cast") (option_map joined_names j.names))

-- the word and the commitments after it, or nothing if there are none
abbrev pub list_words : List ℕ → List Committed → List Word
list_words first [] = []
list_words first (c ∷ cs) = first ∷ map committed_word (c ∷ cs)

-- craft SESSION from ROLE to ROLE [join ..] [know ..] item .. [open ..] seal SOURCE
abbrev pub craft_words : CraftContent → List Word
craft_words c =
    codes "craft" ∷ c.session ∷ codes "from" ∷ c.from ∷ codes "to" ∷ c.to
    ∷ (join_words c.join ++ (list_words (codes "know") c.know ++ (flat_map item_words c.items ++ (list_words (codes "open") c.openings
    ++ codes "seal" ∷ from_words c.seal))))

-- fN, fN flip I, fN cut I, hex HEX
abbrev pub delivered_words : Delivered → List Word
delivered_words (TheFrame n) = frame_word n ∷ []
delivered_words (TheFlipped n i) = frame_word n ∷ codes "flip" ∷ decimal i ∷ []
delivered_words (TheCut n i) = frame_word n ∷ codes "cut" ∷ decimal i ∷ []
delivered_words (TheBytes digits) = codes "hex" ∷ digits ∷ []

-- v2, if the version is 2
abbrev pub version_words : ℕ → List Word
version_words version = if version == 2 then codes "v2" ∷ [] else []

-- the words of a line
abbrev pub line_words : LineContent → List Word
line_words BlockLine = codes "graph" ∷ codes "{" ∷ []
line_words (EdgeLine label from to) = codes "edge" ∷ label ∷ decimal from ∷ decimal to ∷ []
line_words (HonestLine who) = codes "honest" ∷ who ∷ []
line_words (KeyLine one two digits) = codes "key" ∷ one ∷ two ∷ digits ∷ []
line_words (SessionLine name graph nonce names version) = codes "session" ∷ name ∷ graph ∷ decimal nonce ∷ joined_names names ∷ version_words version
line_words (StartLine who session) = codes "start" ∷ who ∷ session ∷ []
line_words (ActLine who session label values) = codes "act" ∷ who ∷ session ∷ label ∷ map assignment_word values
line_words (AbandonLine who session) = codes "abandon" ∷ who ∷ session ∷ []
line_words (DeliverLine who what) = codes "deliver" ∷ who ∷ delivered_words what
line_words (MakeLine c) = craft_words c
