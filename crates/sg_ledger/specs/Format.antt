-- The file of a ledger: its head, then 65,536 slots of 34 bytes, and the joins that its bytes represent.
use Rattle.std.specs.Prelude.{◌≡◌, ◌≢◌, ◌⊎◌, ℕ, zero, suc, ◌+◌, ◌*◌, ◌<◌, ◌≤◌, List, [], ◌∷◌, ◌++◌, length, take, drop, get_or, Bool, All, AllPairs}
use Rattle.sg_model.specs.Limits.{most_joins}

-- a pair of session and role
abbrev pub Join : Type 0
Join = List ℕ × ℕ

-- the ASCII bytes of SGLEDG01
abbrev pub magic : List ℕ
magic = 0x53 ∷ 0x47 ∷ 0x4C ∷ 0x45 ∷ 0x44 ∷ 0x47 ∷ 0x30 ∷ 0x31 ∷ []

-- the bytes of a slot, counted from 0
abbrev pub slot_of : List ℕ → ℕ → List ℕ
slot_of file n = take 34 (drop (8 + 34 * n) file)

-- the gate of a slot is its first byte, and it is open exactly if it is 1
abbrev pub IsOpen : List ℕ → Type 0
IsOpen slot = get_or slot 0 0 ≡ 1

-- the session and the role that stand behind the gate of a slot
abbrev pub pair_of : List ℕ → Join
pair_of slot = (take 32 (drop 1 slot), get_or slot 33 0)

-- the pairs of the first slots
abbrev pub pairs_of : List ℕ → ℕ → List Join
pairs_of file zero = []
pairs_of file (suc n) = pairs_of file n ++ pair_of (slot_of file n) ∷ []

-- the length and the head of a ledger
abbrev pub IsLedger : List ℕ → Type 0
IsLedger file = (length file ≡ 2228232) × (take 8 file ≡ magic)

-- a ledger with nothing but zeros after its head
abbrev pub IsBlank : List ℕ → Type 0
IsBlank file = IsLedger file × All (λ b. b ≡ 0) (drop 8 file)

-- The first `count` slots of a file represent joins: as many gates are open as there are joins, all before those that are not, and
-- behind them stand the pairs in order, which all differ and whose roles are below 16.
pub record SlotsRepresent (file : List ℕ) (count : ℕ) (joins : List Join) : Type 0 where
  pub fits : length joins ≤ count
  pub gates : (n : ℕ) → n < length joins → IsOpen (slot_of file n)
  pub pairs : joins ≡ pairs_of file (length joins)
  pub shut : (n : ℕ) → length joins ≤ n → n < count → ¬ IsOpen (slot_of file n)
  pub roles : All (λ j. j.1 < 16) joins
  pub differ : AllPairs (λ a b. a ≢ b) joins

-- the bytes of a ledger represent joins
pub record Represents (file : List ℕ) (joins : List Join) : Type 0 where
  pub ledger : IsLedger file
  pub slots : SlotsRepresent file most_joins joins

-- they represent the joins, or the joins and one more
abbrev pub RepresentsOneOf : List Join → Join → List ℕ → Type 0
RepresentsOneOf joins join file = Represents file joins ⊎ Represents file (joins ++ join ∷ [])

-- an open slot that no ledger has: its role is above 15, or it repeats a pair, or it follows a gate that is not open
abbrev pub IsBadSlot : List ℕ → ℕ → Type 0
IsBadSlot file n = IsOpen (slot_of file n) × (
    (16 ≤ (pair_of (slot_of file n)).1)
    ⊎ ((m : ℕ) × (m < n) × IsOpen (slot_of file m) × (pair_of (slot_of file m) ≡ pair_of (slot_of file n)))
    ⊎ ((m : ℕ) × (m < n) × ¬ IsOpen (slot_of file m)))

-- the first such slot
abbrev pub IsFirstBadSlot : List ℕ → ℕ → Type 0
IsFirstBadSlot file n = (n < most_joins) × IsBadSlot file n × ((m : ℕ) → m < n → ¬ IsBadSlot file m)

-- what clauses see of an opened ledger: its joins in order, and whether a call to add one has failed
pub record OpenLedger : Type 0 where
  pub joins : List Join
  pub failed : Bool
