-- The pieces of a connection removed one after the other.
use Rattle.std.proofs.Common.{◌≡◌, ℕ, suc, ◌+◌, ◌<◌, ◌==◌, Bool, true, false, if◌then◌else◌, eq-eqb, drop-cons, List, [], ◌∷◌, ◌++◌, map, reverse, length, get_or, take, drop, refl, sym, ap, ◌∙◌, arith}
use Rattle.std.specs.List.{remove, list_any}
use Rattle.std.proofs.lemmas.List.{take_at, drop_at, length-take-le, map-append, reverse-append}
use Rattle.std.proofs.lemmas.Bool.{or_parts}
use Rattle.sg_base.specs.declared.address.Addr.{Addr}
use Rattle.sg_base.specs.Memory.{SinkHeld}
use Rattle.sg_stream.specs.Memory.{writer_of}
use Rattle.sg_stream.specs.Traffic.{without}

-- a piece of this connection that is not its end goes
pub without-piece : (conn at : ℕ) (ps new : List (ℕ × List ℕ)) (x : ℕ × List ℕ) (last : Bool) → at < length ps → x ≡ get_or ps at x → x.0 ≡ conn → last ≡ (length (get_or ps at x).1 == 0) → last ≡ false → new ≡ remove ps at → take at ps ++ without conn (drop at ps) ≡ take at new ++ without conn (drop at new)
without-piece conn at ps new x last within read this is more gone =
    let here : drop at ps ≡ x ∷ drop (suc at) ps = drop-cons ps at x within ∙ ap (λ y. y ∷ drop (suc at) ps) (sym read) in
    let same : (x.0 == conn) ≡ true = eq-eqb x.0 conn this in
    let empty : (length x.1 == 0) ≡ false = ap (λ y. length y.1 == 0) read ∙ (sym is ∙ more) in
    let step : without conn (x ∷ drop (suc at) ps) ≡ without conn (drop (suc at) ps) = rw (same, empty) refl in
    let long : length (take at ps) ≡ at = length-take-le at ps (omega arith) in
    let prefix : take at (take at ps ++ drop (suc at) ps) ≡ take at ps = take_at (take at ps) (drop (suc at) ps) at long in
    let back : drop at (take at ps ++ drop (suc at) ps) ≡ drop (suc at) ps = drop_at (take at ps) (drop (suc at) ps) at long in
    rw (gone, here, step, prefix, back) refl

-- a number that no piece has, no piece has after a connection was closed
pub any-without : (n conn : ℕ) (ps : List (ℕ × List ℕ)) → list_any (λ p. p.0 == n) ps ≡ false → list_any (λ p. p.0 == n) (without conn ps) ≡ false
any-without n conn [] none = none
any-without n conn (p ∷ ps) none =
    let h = or_parts (p.0 == n) (list_any (λ q. q.0 == n) ps) none in
    let rest : list_any (λ q. q.0 == n) (without conn ps) ≡ false = any-without n conn ps h.1 in
    elim (p.0 == conn) as (λ b. list_any (λ q. q.0 == n) (if b then (if length p.1 == 0 then ps else without conn ps) else p ∷ without conn ps) ≡ false) [
      | true ↦ elim (length p.1 == 0) as (λ b. list_any (λ q. q.0 == n) (if b then ps else without conn ps) ≡ false) [ true ↦ h.1 | false ↦ rest ]
      | false ↦ rw h.0 rest
    ]

-- closing a connection of which there is no piece changes none
pub without-none : (conn : ℕ) (ps : List (ℕ × List ℕ)) → list_any (λ p. p.0 == conn) ps ≡ false → without conn ps ≡ ps
without-none conn [] none = refl
without-none conn (p ∷ ps) none =
    let h = or_parts (p.0 == conn) (list_any (λ q. q.0 == conn) ps) none in
    rw h.0 (ap (λ qs. p ∷ qs) (without-none conn ps h.1))

-- the connection that was closed last is the latest
pub latest : (closed : List (Addr × SinkHeld)) (w : Addr × SinkHeld) → reverse (map writer_of (closed ++ w ∷ [])) ≡ writer_of w ∷ reverse (map writer_of closed)
latest closed w =
    ap reverse (map-append writer_of closed (w ∷ [])) ∙ reverse-append (map writer_of closed) (writer_of w ∷ [])
