-- The frame of an answer, as a list of one or none.
use Rattle.std.specs.Prelude.{ℕ, List, [], ◌∷◌, Option, Some, None}
use Rattle.sg_again.specs.LastFrames.{SentFrame}
use Rattle.sg_base.specs.declared.address.Addr.{Addr}

-- the frame, with the address that it goes to
abbrev pub posted : Option SentFrame → List (Addr × List ℕ)
posted None = []
posted (Some f) = (f.at, f.bytes) ∷ []
