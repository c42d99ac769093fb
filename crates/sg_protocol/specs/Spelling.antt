-- How a frame is spelled.
use Rattle.std.specs.Prelude.{◌≡◌, ◌≢◌, ℕ, ◌<◌, ◌≤◌, List, [], ◌∷◌, length, IsTrue, ◌==◌, if◌then◌else◌, map, Option, Some, None, ◌⊎◌, IfSome, ◌++◌, take, codes, flat_map}
use Rattle.std.specs.Int.{w16, w32, w64, to_be_bytes, cast_unsigned}
use Rattle.std.specs.List.{AllByRecursion, concat}
use Rattle.sg_model.specs.Bytes.{AreBytes}
use Rattle.sg_model.specs.Last.{Map}
use Rattle.sg_model.specs.Lists.{rises_from}
use Rattle.sg_model.specs.Values.{Value, IntValue, TextValue, Opening}
use Rattle.sg_model.specs.Limits.{most_roles, most_variables, most_frame_bytes}
use Rattle.sg_protocol.specs.Frame.{Cast, Item, Frame, tag_len, IsTag, IsCastOf, IsItem, IsOpening}

-- ---- fields

-- a number in one byte
abbrev pub u8 : ℕ → List ℕ
u8 n = n ∷ []

-- a number in two bytes, high first
abbrev pub u16 : ℕ → List ℕ
u16 n = to_be_bytes w16 n

-- a number in four bytes, high first
abbrev pub u32 : ℕ → List ℕ
u32 n = to_be_bytes w32 n

-- a number in eight bytes, high first
abbrev pub u64 : ℕ → List ℕ
u64 n = to_be_bytes w64 n

-- the length in one byte, and the text
abbrev pub short_text : List ℕ → List ℕ
short_text t = length t ∷ t

-- the bytes of a value
abbrev pub value_bytes : Value → List ℕ
value_bytes (IntValue z) = u64 (cast_unsigned w64 z)
value_bytes (TextValue t) = t

-- 0 for a number and 1 for a text
abbrev pub kind_code : Value → ℕ
kind_code (IntValue z) = 0
kind_code (TextValue t) = 1

-- a value with its length
abbrev pub sized : Value → List ℕ
sized v = u32 (length (value_bytes v)) ++ value_bytes v

-- the variable, the confounder, the type, and the value with its length
abbrev pub opening_bytes : Opening → List ℕ
opening_bytes o = concat (u8 o.variable ∷ o.confounder ∷ u8 (kind_code o.value) ∷ sized o.value ∷ [])

-- ---- frames

-- the first four bytes say the version
abbrev pub magic : ℕ → List ℕ
magic version = if version == 2 then codes "SGF2" else codes "SGF1"

-- a cast in a frame, which names the version already
abbrev pub join_bytes : Option Cast → List ℕ
join_bytes None = []
join_bytes (Some c) = concat (c.graph ∷ c.nonce ∷ u8 (length c.names) ∷ flat_map short_text c.names ∷ [])

-- each key in one byte, and the bytes of what belongs to it
abbrev pub pair_bytes : (List ℕ → List ℕ) → ℕ × List ℕ → List ℕ
pair_bytes spelled (k, v) = u8 k ++ spelled v

-- the number of pairs, and the pairs
abbrev pub map_bytes : (List ℕ → List ℕ) → Map (List ℕ) → List ℕ
map_bytes spelled m = u8 (length m) ++ flat_map (pair_bytes spelled) m

-- the bytes of an item
abbrev pub item_bytes : ℕ → Item → List ℕ
item_bytes version i = concat (u8 i.role ∷ u16 i.label ∷ u32 i.time ∷ map_bytes (λ c. c) i.delta ∷ map_bytes (take (tag_len version)) i.tags ∷ [])

-- 0 for a frame that joins, 1 for one that continues
abbrev pub join_code : Option Cast → ℕ
join_code None = 1
join_code (Some c) = 0

-- the frame's bytes before its tag
abbrev pub body : Frame → List ℕ
body f = concat (magic f.version ∷ u8 (join_code f.join) ∷ f.sid ∷ u8 f.sender ∷ u8 f.receiver ∷ join_bytes f.join
    ∷ u16 (length f.items) ∷ flat_map (item_bytes f.version) f.items
    ∷ u8 (length f.openings) ∷ flat_map opening_bytes f.openings ∷ [])

-- the frame's bytes
abbrev pub spelling : Frame → List ℕ
spelling f = body f ++ take (tag_len f.version) f.tag

-- each field is in its range
pub record IsInRange (f : Frame) : Type 0 where
  pub version : (f.version ≡ 1) ⊎ (f.version ≡ 2)
  pub sid : AreBytes 32 f.sid
  pub roles : (f.sender < most_roles) × (f.receiver < most_roles) × (f.receiver ≢ f.sender)
  pub join : IfSome f.join (IsCastOf f.version)
  pub count : (1 ≤ length f.items) × (length f.items ≤ 65535)
  pub items : AllByRecursion (IsItem f.version) f.items
  pub variables : (length f.openings ≤ most_variables) × IsTrue (rises_from 0 (map (λ o. o.variable) f.openings))
  pub openings : AllByRecursion IsOpening f.openings
  pub tag : IsTag f.version f.tag

-- each field is in its range, and there are at most 60,000 bytes
pub record HasSpelling (f : Frame) : Type 0 where
  pub fields : IsInRange f
  pub short : length (spelling f) ≤ most_frame_bytes

-- the bytes are the frame
pub record SpellsFrame (bs : List ℕ) (f : Frame) : Type 0 where
  pub is_frame : HasSpelling f
  pub spelled : spelling f ≡ bs
