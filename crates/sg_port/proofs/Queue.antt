-- The bytes of frames.
use Rattle.std.proofs.Common.{◌≡◌, ℕ, ◌+◌, List, [], ◌∷◌, ◌++◌, Vec, Global, length, map, arith, length-append}
use Rattle.std.specs.List.{concat}

-- one more frame behind others has so many bytes more
pub total_more : (frames : List (Vec ℕ Global)) (frame : Vec ℕ Global) → length (concat (map (λ (f : Vec ℕ Global). f.items) (frames ++ frame ∷ []))) ≡ length (concat (map (λ (f : Vec ℕ Global). f.items) frames)) + length frame.items
total_more [] frame = omega (arith, length-append frame.items [])
total_more (first ∷ frames) frame =
    omega (arith, total_more frames frame, length-append first.items (concat (map (λ (f : Vec ℕ Global). f.items) (frames ++ frame ∷ []))), length-append first.items (concat (map (λ (f : Vec ℕ Global). f.items) frames)))
