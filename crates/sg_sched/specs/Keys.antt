-- Which of some keys is that of a pair of principals.
use Rattle.std.specs.Prelude.{Bool, ◌&&◌, ◌||◌, List, bytes_eq}
use Rattle.std.specs.List.{list_any}
use Rattle.sg_model.specs.Names.{Name}
use Rattle.sg_protocol.specs.Schedule.{PairKey}

-- the key of these two in this order
abbrev pub is_of : Name → Name → PairKey → Bool
is_of one two k = bytes_eq one k.one && bytes_eq two k.two

-- two principals have a key, whichever stands first
abbrev pub has_key : Name → Name → List PairKey → Bool
has_key one two keys = list_any (is_of one two) keys || list_any (is_of two one) keys
