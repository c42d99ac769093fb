-- What the parts of the search for bad reads answer.
use Rattle.std.specs.Prelude.{◌≡◌, ℕ, ◌==◌, nat_lt, nat_le, Bool, ◌&&◌, ◌||◌, if◌then◌else◌, Option, Some, None, MatchOption}
use Rattle.sg_model.specs.Shape.{sender}
use Rattle.sg_protocol.specs.Graph.{Graph, shape}
use Rattle.sg_know.specs.declared.bad.BadRead.{BadRead as Found}
use Rattle.sg_know.specs.Reads.{HasBadRead, IsBadRead, IsLeast, IsNowhere}

-- at (e, y) is a bad read of x by role r
abbrev pub IsBadOf : Graph → ℕ → ℕ → ℕ → ℕ → Type 0
IsBadOf g r x e y = HasBadRead g e y × (sender (shape g) e ≡ r) × (y ≡ x)

-- at (e, y) is a bad read of x
abbrev pub IsBadOfVar : Graph → ℕ → ℕ → ℕ → Type 0
IsBadOfVar g x e y = HasBadRead g e y × (y ≡ x)

-- the bad read at the least position where P holds, or none if P holds nowhere
abbrev pub IsFirstBad : Graph → (ℕ → ℕ → Type 0) → Option Found → Type 0
IsFirstBad g P found = MatchOption found (IsNowhere P) (λ b. IsLeast P b.label b.var × IsBadRead g b.label b.var b.walk)

-- the position of the first bad read is that of the second or comes before it
abbrev pub is_up_to : Found → Found → Bool
is_up_to one other = nat_lt one.label other.label || ((one.label == other.label) && nat_le one.var other.var)

-- the one of the lesser position
abbrev pub earlier : Option Found → Option Found → Option Found
earlier None other = other
earlier (Some one) None = Some one
earlier (Some one) (Some other) = if is_up_to one other then Some one else Some other
