-- The frames that pieces bring, each piece with its connection's number. An empty piece ends its connection.
use Rattle.std.specs.Prelude.{ℕ, ◌==◌, if◌then◌else◌, List, [], ◌∷◌, ◌++◌, length, drop}
use Rattle.sg_stream.specs.Frames.{frames_of}

-- what the connection that has a number brought, its pieces joined; of the pieces that came the latest is first
abbrev pub brought : ℕ → List (ℕ × List ℕ) → List ℕ
brought conn [] = []
brought conn (p ∷ before) =
    if p.0 == conn then (if length p.1 == 0 then [] else brought conn before ++ p.1) else brought conn before

-- the frames whose messages a piece makes whole
abbrev pub made_whole : List (ℕ × List ℕ) → ℕ × List ℕ → List (List ℕ)
made_whole before p = drop (length (frames_of (brought p.0 before))) (frames_of (brought p.0 (p ∷ before)))

-- the frames that pieces bring after those that came before, in the order in which their messages become whole
abbrev pub brings : List (ℕ × List ℕ) → List (ℕ × List ℕ) → List (List ℕ)
brings before [] = []
brings before (p ∷ coming) = made_whole before p ++ brings (p ∷ before) coming

-- the frames that pieces bring to begin with
abbrev pub arrivals : List (ℕ × List ℕ) → List (List ℕ)
arrivals pieces = brings [] pieces
