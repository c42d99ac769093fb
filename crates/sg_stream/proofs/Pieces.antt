-- Pieces that were taken, and connections that were closed.
use Rattle.std.proofs.Common.{◌≡◌, ℕ, ◌+◌, ◌≤◌, ◌==◌, true, false, if◌then◌else◌, List, [], ◌∷◌, length, Option, ap, arith}
use Rattle.std.specs.Option.{option_map}
use Rattle.sg_stream.specs.Traffic.{Traffic, without, after_close}
use Rattle.sg_stream.specs.Link.{TakenOff}

pub taken_more : (m n k : ℕ) (old between new : Option Traffic) → TakenOff m old between → TakenOff n between new → k ≡ m + n → TakenOff k old new
taken_more m n k old between new first second sum = λ t h.
    let a = first t h in
    let b = second a.0 a.1 in
    (b.0, b.1, omega (arith, a.2, b.2, sum))

without-shorter : (conn : ℕ) (ps : List (ℕ × List ℕ)) → length (without conn ps) ≤ length ps
without-shorter conn [] = omega arith
without-shorter conn (p ∷ ps) =
    let more = without-shorter conn ps in
    elim (p.0 == conn) as (λ b. length (if b then (if length p.1 == 0 then ps else without conn ps) else p ∷ without conn ps) ≤ length (p ∷ ps)) [
      | true ↦ elim (length p.1 == 0) as (λ b. length (if b then ps else without conn ps) ≤ length (p ∷ ps)) [ true ↦ omega arith | false ↦ omega (arith, more) ]
      | false ↦ omega (arith, more)
    ]

pub taken_closed : (conn : ℕ) (held : Option Traffic) → TakenOff 0 held (option_map (after_close conn) held)
taken_closed conn held = λ t h.
    let shorter = without-shorter conn t.coming in
    (after_close conn t, ap (option_map (after_close conn)) h, omega (arith, shorter))
