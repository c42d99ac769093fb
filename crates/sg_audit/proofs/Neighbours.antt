-- The first moment of two neighbours, index by index.
use Rattle.std.proofs.Common.{◌≡◌, ◌≢◌, ℕ, zero, suc, ◌+◌, ◌-◌, ◌<◌, ◌≤◌, ◌==◌, true, false, List, [], ◌∷◌, drop, map, length, get_or, refl, ap, ◌∙◌, arith}
use Rattle.std.specs.Prelude.{Some, None}
use Rattle.std.proofs.lemmas.Bool.Decides.{nat_tests}
use Rattle.sg_model.proofs.Small.{drop_from}
use Rattle.sg_protocol.specs.Calls.{Event}
use Rattle.sg_audit.specs.Merged.{moment}
use Rattle.sg_audit.proofs.Moments.{first_twice}

two_at : {X : Type 0} (xs : List X) (i : ℕ) (x y : X) → suc i < length xs → x ≡ get_or xs i x → y ≡ get_or xs (suc i) y → drop i xs ≡ x ∷ y ∷ drop (suc (suc i)) xs
two_at xs i x y l e f = drop_from xs i x (omega arith) e ∙ ap (λ zs. x ∷ zs) (drop_from xs (suc i) y l f)

here : {X : Type 0} (view : X → Event) (xs : List X) (i : ℕ) (x y : X) → suc i < length xs → x ≡ get_or xs i x → y ≡ get_or xs (suc i) y → moment (view x) ≡ moment (view y)
    → first_twice (map view (drop i xs)) ≡ Some (moment (view y))
here view xs i x y l e f s =
    let t : (moment (view x) == moment (view y)) ≡ true = grind (arith, nat_tests, s) in
    rw (two_at xs i x y l e f) (rw t (ap Some s))

other : {X : Type 0} (view : X → Event) (xs : List X) (i : ℕ) (x y : X) → suc i < length xs → x ≡ get_or xs i x → y ≡ get_or xs (suc i) y → moment (view x) ≢ moment (view y)
    → first_twice (map view (drop i xs)) ≡ first_twice (map view (drop (suc i) xs))
other view xs i x y l e f s =
    let t : (moment (view x) == moment (view y)) ≡ false = grind (arith, nat_tests, s) in
    rw (two_at xs i x y l e f, drop_from xs (suc i) y l f) (rw t refl)

last : {X : Type 0} (view : X → Event) (xs : List X) (i : ℕ) → length xs ≤ suc i → first_twice (map view (drop i xs)) ≡ None
last view [] zero l = refl
last view [] (suc i) l = refl
last view (x ∷ []) zero l = refl
last view (x ∷ y ∷ ys) zero l = absurd (omega arith)
last view (x ∷ xs) (suc i) l = last view xs i (omega arith)

-- from the index before n on, if n is an index
pub twice_here : {X : Type 0} (view : X → Event) (xs : List X) (n : ℕ) (x y : X) → 1 ≤ n → n < length xs → x ≡ get_or xs (n - 1) x → y ≡ get_or xs n y → moment (view x) ≡ moment (view y)
    → first_twice (map view (drop (n - 1) xs)) ≡ Some (moment (view y))
twice_here view xs zero x y p l e f s = absurd (omega arith)
twice_here view xs (suc i) x y p l e f s = let q : suc i - 1 ≡ i = omega arith in rw q (here view xs i x y l (rw q at e) f s)

pub twice_next : {X : Type 0} (view : X → Event) (xs : List X) (n : ℕ) (x y : X) → 1 ≤ n → n < length xs → x ≡ get_or xs (n - 1) x → y ≡ get_or xs n y → moment (view x) ≢ moment (view y)
    → first_twice (map view (drop (n - 1) xs)) ≡ first_twice (map view (drop (n + 1 - 1) xs))
twice_next view xs zero x y p l e f s = absurd (omega arith)
twice_next view xs (suc i) x y p l e f s = let q : suc i - 1 ≡ i = omega arith in let r : suc i + 1 - 1 ≡ suc i = omega arith in rw (q, r) (other view xs i x y l (rw q at e) f s)

pub twice_end : {X : Type 0} (view : X → Event) (xs : List X) (n : ℕ) → length xs ≤ n → first_twice (map view (drop (n - 1) xs)) ≡ None
twice_end view [] zero l = refl
twice_end view (x ∷ xs) zero l = absurd (omega arith)
twice_end view xs (suc i) l = let q : suc i - 1 ≡ i = omega arith in rw q (last view xs i l)
