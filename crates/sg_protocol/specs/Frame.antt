-- Casts, items, openings and frames, and the range of each field.
use Rattle.std.specs.Prelude.{◌≡◌, ℕ, ◌<◌, ◌≤◌, List, length, IsTrue, ◌==◌, if◌then◌else◌, Option, FitsSigned, drop, ◌-◌, replicate}
use Rattle.std.specs.Int.{w64}
use Rattle.std.specs.List.{AllByRecursion}
use Rattle.std.specs.Str.{is_utf8}
use Rattle.sg_model.specs.Bytes.{IsBytes, AreBytes}
use Rattle.sg_model.specs.Last.{Map}
use Rattle.sg_model.specs.Lists.{keys_of, rises_from}
use Rattle.sg_model.specs.Names.{Name, is_name}
use Rattle.sg_model.specs.Values.{Value, IntValue, TextValue, Opening}
use Rattle.sg_model.specs.Limits.{most_roles, most_variables, most_edges, most_time, most_text_bytes}
use Rattle.sg_protocol.specs.Graph.{VariableKind, Int, Text}

-- who takes part: version 1 or 2, the digest of the graph, sixteen bytes, and the principal of each role
pub record Cast : Type 0 where
  pub version : ℕ
  pub graph : List ℕ
  pub nonce : List ℕ
  pub names : List Name

-- a step: the role that sent along the label, when, its new commitments, and tags for other roles. A tag has 32 bytes
pub record Item : Type 0 where
  pub role : ℕ
  pub label : ℕ
  pub time : ℕ
  pub delta : Map (List ℕ)
  pub tags : Map (List ℕ)

-- what one role sends to another. With its cast it joins; without it, it continues
pub record Frame : Type 0 where
  pub version : ℕ
  pub sid : List ℕ
  pub sender : ℕ
  pub receiver : ℕ
  pub join : Option Cast
  pub items : List Item
  pub openings : List Opening
  pub tag : List ℕ

-- the type of a value
abbrev pub kind_of_value : Value → VariableKind
kind_of_value (IntValue z) = Int
kind_of_value (TextValue t) = Text

-- how many bytes of a tag are sent
abbrev pub tag_len : ℕ → ℕ
tag_len version = if version == 2 then 16 else 32

-- ---- which frames have a spelling

-- a number in the range of an i64, or a text: UTF-8 of at most 1,024 bytes
abbrev pub IsValue : Value → Type 0
IsValue (IntValue z) = FitsSigned w64 z
IsValue (TextValue t) = IsTrue (is_utf8 t) × (length t ≤ most_text_bytes) × IsBytes t

-- 32 bytes, of which those are 0 that the version does not send
pub record IsTag (version : ℕ) (t : List ℕ) : Type 0 where
  pub bytes : AreBytes 32 t
  pub zeros : drop (tag_len version) t ≡ replicate (32 - tag_len version) 0

-- a cast of version v: 2 to 16 names
pub record IsCastOf (v : ℕ) (c : Cast) : Type 0 where
  pub version : c.version ≡ v
  pub graph : AreBytes 32 c.graph
  pub nonce : AreBytes 16 c.nonce
  pub count : (2 ≤ length c.names) × (length c.names ≤ most_roles)
  pub names : AllByRecursion (λ n. IsTrue (is_name n)) c.names

-- each field of an item is in its range
pub record IsItem (version : ℕ) (i : Item) : Type 0 where
  pub role : i.role < most_roles
  pub label : i.label < most_edges
  pub time : (1 ≤ i.time) × (i.time ≤ most_time)
  pub variables : (length i.delta ≤ most_variables) × IsTrue (rises_from 0 (keys_of i.delta))
  pub delta : AllByRecursion (λ d. (d.0 < most_variables) × AreBytes 32 d.1) i.delta
  pub roles : (length i.tags ≤ 14) × IsTrue (rises_from 0 (keys_of i.tags))
  pub tags : AllByRecursion (λ t. (t.0 < most_roles) × IsTag version t.1) i.tags

-- each field of an opening is in its range
pub record IsOpening (o : Opening) : Type 0 where
  pub variable : o.variable < most_variables
  pub confounder : AreBytes 16 o.confounder
  pub value : IsValue o.value
