-- What a search for a walk that breaks a claim has found.
use Rattle.std.specs.Prelude.{◌≡◌, ℕ, ◌<◌, ◌≤◌, Bool, true, false, not, List, [], ◌∷◌, ◌++◌, length, get_or, count_by, IsTrue, ◌⊎◌}
use Rattle.sg_model.specs.Lists.{is_in}
use Rattle.sg_model.specs.Shape.{Shape, source, target}
use Rattle.sg_model.specs.Claims.{Claim, bit_after, right_bit}
use Rattle.sg_claims.specs.Index.{index_of}
use Rattle.sg_claims.specs.declared.search.Entry.{Entry}

-- no edge with a label of `later` leaves the node with the wrong bit
abbrev pub IsSound : Shape → Claim → ℕ → Bool → Type 0
IsSound g c n bit = (e : ℕ) → e < length g.edges → source g e ≡ n → IsTrue (is_in e c.later) → bit ≡ right_bit c.kind

-- the edge of the label leaves the node with the wrong bit, the label is one of `later`, and no less label is such a one
pub record IsLeastWrong (g : Shape) (c : Claim) (n : ℕ) (bit : Bool) (label : ℕ) : Type 0 where
  pub is_edge : label < length g.edges
  pub leaves : source g label ≡ n
  pub is_later : IsTrue (is_in label c.later)
  pub wrong : bit ≡ not (right_bit c.kind)
  pub least : (e : ℕ) → e < length g.edges → source g e ≡ n → IsTrue (is_in e c.later) → label ≤ e

-- an entry by its index in the order of finding
abbrev pub entry_at : List Entry → ℕ → Entry
entry_at entries i = get_or entries i (record { node = 0; bit = false; from = 0; last = 0 })

-- a walk for each entry: none for the first, and for another one that of the entry from which it was found, and its last label
pub record AreWalks (entries : List Entry) (walks : ℕ → List ℕ) : Type 0 where
  pub first : walks 0 ≡ []
  pub others : (i : ℕ) → 0 < i → i < length entries → walks i ≡ walks (entry_at entries i).from ++ (entry_at entries i).last ∷ []

-- the last edge of an entry leads to its node and bit from those of an earlier entry
pub record IsLed (g : Shape) (c : Claim) (entries : List Entry) (i : ℕ) : Type 0 where
  pub earlier : (entry_at entries i).from < i
  pub is_edge : (entry_at entries i).last < length g.edges
  pub leaves : source g (entry_at entries i).last ≡ (entry_at entries (entry_at entries i).from).node
  pub leads : target g (entry_at entries i).last ≡ (entry_at entries i).node
  pub has_bit : bit_after c (entry_at entries (entry_at entries i).from).bit (entry_at entries i).last ≡ (entry_at entries i).bit

-- where a label leads from an entry was found, and no later than by this label from there
pub record IsEntered (g : Shape) (c : Claim) (entries : List Entry) (i e : ℕ) : Type 0 where
  pub index : ℕ
  pub within : index < length entries
  pub node : (entry_at entries index).node ≡ target g e
  pub has_bit : (entry_at entries index).bit ≡ bit_after c (entry_at entries i).bit e
  pub in_time : (index ≡ 0) ⊎ ((entry_at entries index).from < i) ⊎ (((entry_at entries index).from ≡ i) × ((entry_at entries index).last ≤ e))

-- any label
abbrev pub Any : ℕ → Type 0
Any e = Unit {0}

-- the first entry is the start without the bit, and a label leads to each other one from an earlier one, in the order of finding; the table has each once,
-- and no other
pub record AreFound (g : Shape) (c : Claim) (entries : List Entry) (seen : List Bool) : Type 0 where
  pub size : length seen ≡ 512
  pub counted : length entries ≡ count_by (λ b. b) seen
  pub begun : 0 < length entries
  pub start : ((entry_at entries 0).node ≡ 0) × ((entry_at entries 0).bit ≡ false)
  pub table : (n : ℕ) (bit : Bool) → get_or seen (index_of n bit) false ≡ true → (i : ℕ) × (i < length entries) × ((entry_at entries i).node ≡ n) × ((entry_at entries i).bit ≡ bit)
  pub noted : (i : ℕ) → i < length entries → get_or seen (index_of (entry_at entries i).node (entry_at entries i).bit) false ≡ true
  pub led : (i : ℕ) → 0 < i → i < length entries → IsLed g c entries i
  pub rises : (i j : ℕ) → 0 < i → i < j → j < length entries → ((entry_at entries i).from < (entry_at entries j).from) ⊎ (((entry_at entries i).from ≡ (entry_at entries j).from) × ((entry_at entries i).last < (entry_at entries j).last))

-- The entries up to the one at `at` were followed along their edges, in order, except for labels of that one that are left. Those before it break no claim
pub record IsSearch (g : Shape) (c : Claim) (at : ℕ) (left : ℕ → Type 0) (entries : List Entry) (seen : List Bool) : Type 0 where
  pub found : AreFound g c entries seen
  pub behind : (i : ℕ) → 0 < i → i < length entries → ((entry_at entries i).from < at) ⊎ (((entry_at entries i).from ≡ at) × ((e : ℕ) → left e → (entry_at entries i).last < e))
  pub closed : (i e : ℕ) → i ≤ at → i < length entries → e < length g.edges → source g e ≡ (entry_at entries i).node → IsEntered g c entries i e ⊎ ((i ≡ at) × left e)
  pub sound : (i : ℕ) → i < at → i < length entries → IsSound g c (entry_at entries i).node (entry_at entries i).bit
