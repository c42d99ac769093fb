-- What the addresses of a key file spell.
use Rattle.std.specs.Prelude.{ℕ, ◌==◌, List, [], ◌∷◌, map, Option, Some, None, option_and_then}
use Rattle.std.specs.List.{slice_split}
use Rattle.sg_base.specs.declared.address.Addr.{Addr}
use Rattle.sg_base.specs.Words.{number, from_one}

-- four numbers, if all four and no more are there
abbrev pub four : List (Option ℕ) → Option (List ℕ)
four (Some a ∷ Some b ∷ Some c ∷ Some d ∷ []) = Some (a ∷ b ∷ c ∷ d ∷ [])
four _ = None

-- an IPv4 address: four numbers up to 255 with dots between them
unfoldable pub ip : List ℕ → Option (List ℕ)
ip word = four (map (number 255) (slice_split (λ b. b == 46) word))

-- a port: a number from 1 to 65535
unfoldable pub port : List ℕ → Option ℕ
port word = option_and_then from_one (number 65535 word)

-- an address of its two parts
abbrev pub joined : Option (List ℕ) → Option ℕ → Option Addr
joined (Some i) (Some p) = Some (record { ip = i; port = p })
joined _ _ = None

-- an address of the parts between colons, which are two
abbrev pub address_of : List (List ℕ) → Option Addr
address_of (host ∷ door ∷ []) = joined (ip host) (port door)
address_of _ = None

-- an address: an IPv4 address, a colon and a port
unfoldable pub address : List ℕ → Option Addr
address word = address_of (slice_split (λ b. b == 58) word)
