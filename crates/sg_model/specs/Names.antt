-- Names, and the words that the graph text reserves.
use Rattle.std.specs.Prelude.{ℕ, Bool, true, false, ◌&&◌, nat_le, nat_lt, if◌then◌else◌, List, [], ◌∷◌, length, codes}
use Rattle.std.specs.List.{list_all}

-- the bytes of a name
abbrev pub Name : Type 0
Name = List ℕ

-- a letter
abbrev pub is_letter : ℕ → Bool
is_letter c = if nat_lt c 97 then nat_le 65 c && nat_le c 90 else nat_le c 122

-- a letter, a digit or _
abbrev pub is_name_byte : ℕ → Bool
is_name_byte c = if nat_le 48 c && nat_le c 57 then true else (if nat_le 95 c && nat_le c 95 then true else is_letter c)

-- a letter, then letters, digits or _, at most 32 bytes
abbrev pub is_name : List ℕ → Bool
is_name [] = false
is_name (c ∷ cs) = is_letter c && list_all is_name_byte cs && nat_le (length cs) 31

-- the words that the graph text reserves
abbrev pub reserved : List Name
reserved = codes "graph" ∷ codes "role" ∷ codes "var" ∷ codes "node" ∷ codes "edge" ∷ codes "int" ∷ codes "text" ∷ codes "by" ∷ codes "writes" ∷ codes "reads" ∷ []
