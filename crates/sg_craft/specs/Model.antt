-- How the keys of pairs are kept.
use Rattle.std.specs.Prelude.{ℕ, Bool, ◌&&◌, List, map, bytes_eq}
use Rattle.sg_model.specs.Names.{Name}
use Rattle.sg_protocol.specs.Schedule.{PairKey}
use Rattle.sg_craft.specs.declared.keys.Pair.{Pair}
use Rattle.sg_craft.specs.declared.keys.PairKeys.TheInside.{Inside}

-- the key is of these two principals, in this order
abbrev pub is_in_order : Name → Name → PairKey → Bool
is_in_order one two k = bytes_eq k.one one && bytes_eq k.two two

-- an entry of the table
abbrev pub key_of_entry : Pair × List ℕ → PairKey
key_of_entry e = record { one = (e.0).one; two = (e.0).two; key = e.1 }

-- the keys that are kept
abbrev pub keys_kept : Inside → List PairKey
keys_kept k = map key_of_entry k.table.entries
