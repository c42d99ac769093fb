-- Walks that break a claim, and which of them comes first.
use Rattle.std.specs.Prelude.{◌≡◌, ℕ, ◌<◌, List, [], ◌∷◌, ◌++◌, length, IsTrue, ◌⊎◌, ⊤}
use Rattle.sg_model.specs.Lists.{is_in}
use Rattle.sg_model.specs.Shape.{Shape, Walk}
use Rattle.sg_model.specs.Claims.{Claim, IsRight}

-- a walk from the start whose last label is one of `later`, at which what stands before it is wrong
pub record Breaks (g : Shape) (c : Claim) (walk : List ℕ) : Type 0 where
  pub follows : Walk g 0 walk
  pub before : List ℕ
  pub label : ℕ
  pub there : walk ≡ before ++ label ∷ []
  pub is_later : IsTrue (is_in label c.later)
  pub wrong : IsRight c.kind c.earlier c.since before → ⊥

-- the lists are the same, or the first has the smaller number at the first index where they differ
abbrev pub AreInOrder : List ℕ → List ℕ → Type 0
AreInOrder [] ys = ⊤
AreInOrder (x ∷ xs) [] = ⊥
AreInOrder (x ∷ xs) (y ∷ ys) = (x < y) ⊎ ((x ≡ y) × AreInOrder xs ys)

-- a walk that breaks the claim, and none that does is shorter, or as long and before it when labels are compared from the front
pub record IsFirstBreak (g : Shape) (c : Claim) (walk : List ℕ) : Type 0 where
  pub breaks : Breaks g c walk
  pub first : (other : List ℕ) → Breaks g c other → (length walk < length other) ⊎ ((length walk ≡ length other) × AreInOrder walk other)
