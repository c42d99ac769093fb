-- What of a walk is new: the labels after the last one that is the role's own or an honest sender's.
use Rattle.std.proofs.Common.{◌≡◌, ℕ, zero, suc, ◌-◌, ◌<◌, ◌==◌, Bool, true, false, ◌||◌, if◌then◌else◌, List, [], ◌∷◌, drop, length, get_or, refl, ap, sym, ◌∙◌, inl, inr, arith}
use Rattle.std.specs.List.{list_any}
use Rattle.std.proofs.lemmas.Bool.{cases_Bool, or_parts, or_right}
use Rattle.sg_law.specs.Explaining.{after_honest}
use Rattle.sg_model.specs.Last.{has, after_last}
use Rattle.sg_model.specs.Shape.{Shape, sender}

-- the label is the role's own or an honest sender's
abbrev pub is_known : Shape → (ℕ → Bool) → ℕ → ℕ → Bool
is_known g honest r e = (sender g e == r) || honest (sender g e)

-- if no label is known, none is the role's own
no_own : (g : Shape) (honest : ℕ → Bool) (r : ℕ) (es : List ℕ) → list_any (is_known g honest r) es ≡ false → has (sender g) r es ≡ false
no_own g honest r [] h = refl
no_own g honest r (e ∷ es) h =
    let parts = or_parts (is_known g honest r e) (list_any (is_known g honest r) es) h in
    let here = or_parts (sender g e == r) (honest (sender g e)) parts.0 in
    rw here.0 (no_own g honest r es parts.1)

-- and none is an honest sender's
no_honest : (g : Shape) (honest : ℕ → Bool) (r : ℕ) (es : List ℕ) → list_any (is_known g honest r) es ≡ false → list_any (λ f. honest (sender g f)) es ≡ false
no_honest g honest r [] h = refl
no_honest g honest r (e ∷ es) h =
    let parts = or_parts (is_known g honest r e) (list_any (is_known g honest r) es) h in
    let here = or_parts (sender g e == r) (honest (sender g e)) parts.0 in
    rw here.1 (no_honest g honest r es parts.1)

all_after_own : (g : Shape) (r : ℕ) (es : List ℕ) → has (sender g) r es ≡ false → after_last (sender g) r es ≡ es
all_after_own g r [] h = refl
all_after_own g r (e ∷ es) h = let parts = or_parts (sender g e == r) (has (sender g) r es) h in rw (parts.1, parts.0) refl

all_after_honest : (g : Shape) (honest : ℕ → Bool) (es : List ℕ) → list_any (λ f. honest (sender g f)) es ≡ false → after_honest g honest es ≡ es
all_after_honest g honest [] h = refl
all_after_honest g honest (e ∷ es) h = rw h refl

-- a known label that isn't the role's own is an honest sender's
some_honest : (g : Shape) (honest : ℕ → Bool) (r : ℕ) (es : List ℕ) (n x : ℕ) → n < length es → x ≡ get_or es n x → is_known g honest r x ≡ true → has (sender g) r es ≡ false
    → list_any (λ f. honest (sender g f)) es ≡ true
some_honest g honest r [] n x l e k h = absurd (omega arith)
some_honest g honest r (y ∷ ys) zero x l e k h =
    let parts = or_parts (sender g y == r) (has (sender g) r ys) h in
    let here : is_known g honest r y ≡ true = ap (is_known g honest r) (sym e) ∙ k in
    let yes : honest (sender g y) ≡ true = rw parts.0 at here in
    rw yes refl
some_honest g honest r (y ∷ ys) (suc n) x l e k h =
    let parts = or_parts (sender g y == r) (has (sender g) r ys) h in
    or_right (honest (sender g y)) (list_any (λ f. honest (sender g f)) ys) (some_honest g honest r ys n x (omega arith) e k parts.1)

-- if no label is known, all are new
pub all_new : (g : Shape) (honest : ℕ → Bool) (r : ℕ) (es : List ℕ) → list_any (is_known g honest r) es ≡ false → es ≡ after_honest g honest (after_last (sender g) r es)
all_new g honest r es h = rw (all_after_own g r es (no_own g honest r es h)) (sym (all_after_honest g honest es (no_honest g honest r es h)))

-- those behind the last one that is known are new
pub new_after : (g : Shape) (honest : ℕ → Bool) (r : ℕ) (es : List ℕ) (n x : ℕ) → n < length es → x ≡ get_or es n x → is_known g honest r x ≡ true
    → list_any (is_known g honest r) (drop (suc n) es) ≡ false → drop (suc n) es ≡ after_honest g honest (after_last (sender g) r es)
new_after g honest r [] n x l e k h = absurd (omega arith)
new_after g honest r (y ∷ ys) zero x l e k h =
    let none = no_own g honest r ys h in
    let rest : after_honest g honest ys ≡ ys = all_after_honest g honest ys (no_honest g honest r ys h) in
    elim (cases_Bool (sender g y == r)) [
      | inl own ↦ rw (none, own) (sym rest)
      | inr other ↦
          (let here : is_known g honest r y ≡ true = ap (is_known g honest r) (sym e) ∙ k in
          let yes : honest (sender g y) ≡ true = rw other at here in
          rw (none, other) (rw yes (sym rest)))
    ]
new_after g honest r (y ∷ ys) (suc n) x l e k h =
    let on : drop (suc n) ys ≡ after_honest g honest (after_last (sender g) r ys) = new_after g honest r ys n x (omega arith) e k h in
    elim (cases_Bool (has (sender g) r ys)) [
      | inl later ↦ rw later on
      | inr none ↦
          (let on' : drop (suc n) ys ≡ after_honest g honest ys = on ∙ ap (after_honest g honest) (all_after_own g r ys none) in
          elim (cases_Bool (sender g y == r)) [
            | inl own ↦ rw (none, own) on'
            | inr other ↦
                (let yes : list_any (λ f. honest (sender g f)) ys ≡ true = some_honest g honest r ys n x (omega arith) e k none in
                rw (none, other) (one (honest (sender g y)) (list_any (λ f. honest (sender g f)) ys) yes on'))
          ])
    ]
  where
    one : (a b : Bool) → b ≡ true → drop (suc n) ys ≡ after_honest g honest ys → drop (suc n) ys ≡ (if (a || b) then after_honest g honest ys else y ∷ ys)
    one true b h on = on
    one false b h on = rw h on

-- the same from the end: the labels behind this many
pub new_back : (g : Shape) (honest : ℕ → Bool) (r : ℕ) (es : List ℕ) (back x : ℕ) → back < length es → x ≡ get_or es (length es - 1 - back) x → is_known g honest r x ≡ true
    → list_any (is_known g honest r) (drop (length es - back) es) ≡ false → drop (length es - back) es ≡ after_honest g honest (after_last (sender g) r es)
new_back g honest r es back x l e k h =
    let index : suc (length es - 1 - back) ≡ length es - back = omega arith in
    let on = new_after g honest r es (length es - 1 - back) x (omega arith) e k (rw index h) in
    rw index at on
