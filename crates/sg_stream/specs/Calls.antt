-- What a reader is fed and gives, call by call.
use Rattle.std.specs.Prelude.{◌≡◌, ℕ, List, [], ◌∷◌, ◌++◌}
use Rattle.sg_stream.specs.Framed.{IsFrame, message}

-- a piece that was fed, or a frame that was given
pub data ReaderCall : Type 0 where
  Fed : (piece : List ℕ) → ReaderCall
  Gave : (frame : List ℕ) → ReaderCall

-- from the bytes not taken, these calls may happen and leave the last ones: a piece goes to their end, and a frame is taken off their
-- front with its length
abbrev pub MayHappen : List ℕ → List ReaderCall → List ℕ → Type 0
MayHappen left [] last = left ≡ last
MayHappen left (Fed piece ∷ calls) last = MayHappen (left ++ piece) calls last
MayHappen left (Gave frame ∷ calls) last =
    (next : List ℕ) × IsFrame frame × (left ≡ message frame ++ next) × MayHappen next calls last

-- the pieces that were fed, joined
abbrev pub fed : List ReaderCall → List ℕ
fed [] = []
fed (Fed piece ∷ calls) = piece ++ fed calls
fed (Gave frame ∷ calls) = fed calls

-- the frames that were given
abbrev pub given : List ReaderCall → List (List ℕ)
given [] = []
given (Fed piece ∷ calls) = given calls
given (Gave frame ∷ calls) = frame ∷ given calls
