-- Claims: which labels stand before which, on each walk of a graph from the start.
use Rattle.std.specs.Prelude.{◌≡◌, ℕ, ◌<◌, Bool, true, false, not, ◌&&◌, ◌||◌, List, [], ◌∷◌, ◌++◌, length, IsTrue, ◌↔◌, ◌⊎◌}
use Rattle.std.specs.List.{list_any}
use Rattle.sg_model.specs.Lists.{is_in}
use Rattle.sg_model.specs.Shape.{Shape, Walk, source, target, end_of}

-- whether something must stand before, or must not
pub data ClaimKind : Type 0 where
  Needs : ClaimKind
  Bars : ClaimKind

-- a claim: a label of `later` needs, or bars, a label of `earlier` before it since the last label of `since`
pub record Claim : Type 0 where
  pub kind : ClaimKind
  pub later : List ℕ
  pub earlier : List ℕ
  pub since : List ℕ

-- among the labels stands one of `earlier`, and none of `since` after it
pub record OccursSince (earlier since labels : List ℕ) : Type 0 where
  pub prefix : List ℕ
  pub label : ℕ
  pub rest : List ℕ
  pub there : labels ≡ prefix ++ label ∷ rest
  pub is_earlier : IsTrue (is_in label earlier)
  pub none_since : list_any (λ l. is_in l since) rest ≡ false

-- what a claim of this kind says of the labels before one of `later`
abbrev pub IsRight : ClaimKind → (earlier since before : List ℕ) → Type 0
IsRight Needs earlier since before = OccursSince earlier since before
IsRight Bars earlier since before = OccursSince earlier since before → ⊥

-- wherever a label of `later` stands among the labels, those before it are right
abbrev pub HoldsOn : Claim → List ℕ → Type 0
HoldsOn c labels = (before : List ℕ) (l : ℕ) (after : List ℕ) → labels ≡ before ++ l ∷ after → IsTrue (is_in l c.later) → IsRight c.kind c.earlier c.since before

-- the claim holds of the graph: on each walk from the start
abbrev pub HoldsOnWalks : Shape → Claim → Type 0
HoldsOnWalks g c = (walk : List ℕ) → Walk g 0 walk → HoldsOn c walk

-- ---- one bit decides it

-- whether a label of `earlier` stands after the last one of `since`, one label later
abbrev pub bit_after : Claim → Bool → ℕ → Bool
bit_after c bit l = is_in l c.earlier || (bit && not (is_in l c.since))

-- the same after all these labels
abbrev pub bit_after_all : Claim → Bool → List ℕ → Bool
bit_after_all c bit [] = bit
bit_after_all c bit (l ∷ ls) = bit_after_all c (bit_after c bit l) ls

-- the bit before a label of `later` with which the claim holds
abbrev pub right_bit : ClaimKind → Bool
right_bit Needs = true
right_bit Bars = false

-- some walk from the start leads to the node with this bit
pub record IsReached (g : Shape) (c : Claim) (n : ℕ) (bit : Bool) : Type 0 where
  pub walk : List ℕ
  pub follows : Walk g 0 walk
  pub ends : end_of g 0 walk ≡ n
  pub has_bit : bit_after_all c false walk ≡ bit

-- an edge with a label of `later` leaves a node that is reached with the wrong bit
pub record IsBroken (g : Shape) (c : Claim) : Type 0 where
  pub node : ℕ
  pub reached : IsReached g c node (not (right_bit c.kind))
  pub label : ℕ
  pub is_edge : label < length g.edges
  pub leaves : source g label ≡ node
  pub is_later : IsTrue (is_in label c.later)

-- nodes with bits, among them the start without the bit, which no edge leads out of, and which no edge with a label of `later` leaves with the wrong bit: what a check of a claim finds
pub record Confined (g : Shape) (c : Claim) : Type 0 where
  pub within : ℕ → Bool → Bool
  pub begins : within 0 false ≡ true
  pub closed : (e : ℕ) (bit : Bool) → e < length g.edges → within (source g e) bit ≡ true → within (target g e) (bit_after c bit e) ≡ true
  pub right : (e : ℕ) (bit : Bool) → e < length g.edges → within (source g e) bit ≡ true → IsTrue (is_in e c.later) → bit ≡ right_bit c.kind

-- A claim is confined by such nodes with bits, or it is broken
abbrev pub ClaimsAreConfinedOrBroken : Type 0
ClaimsAreConfinedOrBroken = (g : Shape) (c : Claim) → Confined g c ⊎ IsBroken g c

-- A claim holds of a graph exactly if no edge with a label of `later` leaves a node that is reached with the wrong bit
abbrev pub BitsDecideClaims : Type 0
BitsDecideClaims = (g : Shape) (c : Claim) → HoldsOnWalks g c ↔ (IsBroken g c → ⊥)

-- If a claim that needs holds of labels, between one of `since` and a later one of `later` stands one of `earlier`, or the one of `since` is one. So if `later` is part of `since`, each label of `later` has one of `earlier` of its own
abbrev pub EachHasItsOwn : Type 0
EachHasItsOwn = (c : Claim) (before : List ℕ) (k : ℕ) (between : List ℕ) (l : ℕ) (after : List ℕ) → c.kind ≡ Needs → HoldsOn c (before ++ k ∷ between ++ l ∷ after) → IsTrue (is_in k c.since) → IsTrue (is_in l c.later) → OccursSince c.earlier c.since (k ∷ between)
