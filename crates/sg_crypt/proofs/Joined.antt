-- Texts that are made piece by piece.
use Rattle.std.proofs.Common.{◌≡◌, ℕ, List, [], ◌∷◌, ◌++◌, append_assoc, append-nil}
use Rattle.std.specs.List.{concat}

-- three pieces, one after the other
pub three_joined : (a b c : List ℕ) → (a ++ b) ++ c ≡ concat (a ∷ b ∷ c ∷ [])
three_joined a b c = rw (append-nil c) (append_assoc a b c)
