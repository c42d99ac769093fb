-- How a name is kept: its bytes, and zeros after them.
use Rattle.std.specs.Prelude.{◌≡◌, ℕ, ◌-◌, ◌≤◌, List, ◌++◌, length, take, drop, replicate, IsTrue}
use Rattle.sg_model.specs.Names.{is_name}
use Rattle.sg_base.specs.declared.name.Name.TheInside.{Inside}

-- the bytes of a name
abbrev pub bytes_of : Inside → List ℕ
bytes_of n = take n.count n.bytes

-- the first bytes are a name, and zeros follow them
pub record HoldsName (n : Inside) : Type 0 where
  pub fits : n.count ≤ 32
  pub whole : length n.bytes ≡ 32
  pub zeros : drop n.count n.bytes ≡ replicate (32 - n.count) 0
  pub name : IsTrue (is_name (bytes_of n))

-- the fields of the name with these bytes
abbrev pub fields_of : List ℕ → Inside
fields_of bytes = record { bytes = bytes ++ replicate (32 - length bytes) 0; count = length bytes }
