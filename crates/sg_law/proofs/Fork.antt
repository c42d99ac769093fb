-- If a node blinds two roles, what honest roles do need not follow a walk: an example that is checked.
use Rattle.std.proofs.Common.{◌≡◌, ℕ, zero, suc, ◌≤◌, ◌==◌, Bool, not, List, [], ◌∷◌, length, refl, ap, inl, inr, arith}
use Rattle.sg_law.specs.Graph.{Arrow, Shape, Walk}
use Rattle.sg_law.specs.Accept.{TimedLabel, step_labels}
use Rattle.sg_law.specs.Run.{Transition, AllAllowed, Explained, Action, actions, start, machine_after}
use Rattle.sg_law.specs.Run.Transition.{SendsEdge, Accepts}

abbrev edge : ℕ → ℕ → Arrow
edge a b = record { source = a; target = b; writes = []; reads = [] }

-- role 0 asks, and role 2 is to go on to role 1 or to role 3: its node blinds those two
abbrev fork : Shape
fork = record { roles = 0 ∷ 2 ∷ 1 ∷ 3 ∷ []; edges = edge 0 1 ∷ edge 1 2 ∷ edge 1 3 ∷ [] }

-- role 2 is not honest
abbrev is_honest : ℕ → Bool
is_honest role = not (role == 2)

abbrev step : ℕ → ℕ → TimedLabel
step e t = record { label = e; time = t }

-- it goes on to both
abbrev both_ways : List Transition
both_ways = SendsEdge 0 0 ∷ Accepts 1 2 (step 0 1 ∷ step 1 2 ∷ []) ∷ Accepts 3 3 (step 0 1 ∷ step 2 2 ∷ []) ∷ []

-- each step is one that the honest roles may take
both_allowed : AllAllowed fork is_honest (start fork) both_ways
both_allowed = (
  (refl, omega arith, refl),
  (
    (
      refl,
      refl,
      record { before = []; since = 0 ∷ 1 ∷ []; walk = (omega arith, refl, (omega arith, refl, tt)); ends = refl; turn = refl; own_last = refl; no_own = refl; evidence = refl; rises = (omega arith, (omega arith, tt)) },
      ((0, omega arith, refl), tt),
    ),
    (
      (
        refl,
        refl,
        record { before = []; since = 0 ∷ 2 ∷ []; walk = (omega arith, refl, (omega arith, refl, tt)); ends = refl; turn = refl; own_last = refl; no_own = refl; evidence = refl; rises = (omega arith, (omega arith, tt)) },
        ((0, omega arith, refl), tt),
      ),
      tt,
    ),
  ),
)

short_end : (m : ℕ) (es : List ℕ) → 2 ≤ m → Walk fork m es → es ≡ []
short_end m [] le w = refl
short_end m (zero ∷ es) le w = absurd (omega (arith, le, w.1))
short_end m (suc zero ∷ es) le w = absurd (omega (arith, le, w.1))
short_end m (suc (suc zero) ∷ es) le w = absurd (omega (arith, le, w.1))
short_end m (suc (suc (suc e)) ∷ es) le w = absurd (omega (arith, w.0))

short_middle : (es : List ℕ) → Walk fork 1 es → length (actions fork is_honest es) ≤ 1
short_middle [] w = omega arith
short_middle (zero ∷ es) w = absurd (omega (arith, w.1))
short_middle (suc zero ∷ es) w = rw (short_end 2 es (omega arith) w.2) (omega arith)
short_middle (suc (suc zero) ∷ es) w = rw (short_end 3 es (omega arith) w.2) (omega arith)
short_middle (suc (suc (suc e)) ∷ es) w = absurd (omega (arith, w.0))

short : (es : List ℕ) → Walk fork 0 es → length (actions fork is_honest es) ≤ 2
short [] w = omega arith
short (zero ∷ es) w = let le = short_middle es w.2 in omega (arith, le)
short (suc zero ∷ es) w = absurd (omega (arith, w.1))
short (suc (suc zero) ∷ es) w = absurd (omega (arith, w.1))
short (suc (suc (suc e)) ∷ es) w = absurd (omega (arith, w.0))

-- and no walk explains them
not_explained : Explained fork is_honest both_ways (machine_after (start fork) both_ways) → ⊥
not_explained x =
    let le = short (step_labels x.steps) x.walk in
    elim x.done [
      | inl e ↦ (let same = ap (length {A = Action}) e in omega (arith, le, same))
      | inr e ↦ (let same = ap (length {A = Action}) e in omega (arith, le, same))
    ]
