-- What is wrong with a graph's writes and reads, and where it is wrong first.
use Rattle.std.specs.Prelude.{◌≡◌, ◌≢◌, ◌⊎◌, ℕ, ◌<◌, ◌≤◌, false, List, [], ◌∷◌, IsTrue, Some}
use Rattle.sg_model.specs.Last.{last}
use Rattle.sg_model.specs.Lists.{is_in}
use Rattle.sg_model.specs.Shape.{Walk, sender, receiver}
use Rattle.sg_protocol.specs.Graph.{Graph, shape, writes, reads, writers}
use Rattle.sg_protocol.specs.Knowledge.{knows, ReadsAreKnown}
use Rattle.sg_know.specs.declared.fault.ReadFault.{ReadFault}
use Rattle.sg_know.specs.declared.fault.ReadFault.TheVariants.{NotWriter, ReadsOwn, BadRead, OutOfMemory}

-- edge e writes x, and the sender isn't among the writing roles of x
abbrev pub IsNotWriter : Graph → ℕ → ℕ → Type 0
IsNotWriter g e x = IsTrue (is_in x (writes g e)) × (is_in (sender (shape g) e) (writers g x) ≡ false)

-- edge e reads x, and the receiver is the only writing role of x
abbrev pub IsReadsOwn : Graph → ℕ → ℕ → Type 0
IsReadsOwn g e x = IsTrue (is_in x (reads g e)) × (writers g x ≡ receiver (shape g) e ∷ [])

-- the walk from the start ends with edge e, which reads x, and the sender of e doesn't know x on this walk
pub record IsBadRead (g : Graph) (e x : ℕ) (walk : List ℕ) : Type 0 where
  pub from_start : Walk (shape g) 0 walk
  pub last_edge : last walk ≡ Some e
  pub is_read : IsTrue (is_in x (reads g e))
  pub unknown : knows g (sender (shape g) e) x walk ≡ false

-- on some walk from the start that ends with edge e, the edge reads x and its sender doesn't know x
abbrev pub HasBadRead : Graph → ℕ → ℕ → Type 0
HasBadRead g e x = (walk : List ℕ) × IsBadRead g e x walk

-- the position (e, x) is (f, y) or comes before it: by the labels, then by the variables
abbrev pub IsUpTo : ℕ → ℕ → ℕ → ℕ → Type 0
IsUpTo e x f y = (e < f) ⊎ ((e ≡ f) × (x ≤ y))

-- P holds at (e, x), and at no position before it
abbrev pub IsLeast : (ℕ → ℕ → Type 0) → ℕ → ℕ → Type 0
IsLeast P e x = P e x × ((f y : ℕ) → P f y → IsUpTo e x f y)

-- P holds at no position
abbrev pub IsNowhere : (ℕ → ℕ → Type 0) → Type 0
IsNowhere P = (e x : ℕ) → P e x → ⊥

-- the fault is of the first kind that there is, and names its least position
abbrev pub IsFirstFault : Graph → ReadFault → Type 0
IsFirstFault g (NotWriter e x) = IsLeast (IsNotWriter g) e x
IsFirstFault g (ReadsOwn e x) = IsNowhere (IsNotWriter g) × IsLeast (IsReadsOwn g) e x
IsFirstFault g (BadRead e x walk) = IsNowhere (IsNotWriter g) × IsNowhere (IsReadsOwn g) × IsLeast (HasBadRead g) e x × IsBadRead g e x walk
IsFirstFault g OutOfMemory = Unit {0}

-- only writers write, no variable's only writer receives it as read, and what is read is known: what accepted graphs owe of variables
pub record AcceptedReads (g : Graph) : Type 0 where
  pub writers_write : (e x : ℕ) → IsTrue (is_in x (writes g e)) → IsTrue (is_in (sender (shape g) e) (writers g x))
  pub others_read : (e x : ℕ) → IsTrue (is_in x (reads g e)) → writers g x ≢ receiver (shape g) e ∷ []
  pub reads_known : ReadsAreKnown g
