-- What the spelling of a frame says of its numbers.
use Rattle.std.proofs.Common.{◌≡◌, ℕ, zero, suc, ◌-◌, ◌<◌, true, nat_lt, List, [], ◌∷◌, map, get_or, length, refl, sym, ap, subst, ◌∙◌, arith, Some, All}
use Rattle.std.specs.List.{list_all, AllByRecursion}
use Rattle.std.proofs.lemmas.Bool.Decides.{nat_tests}
use Rattle.sg_model.specs.Last.{Map, last, last_or}
use Rattle.sg_model.specs.Lists.{keys_of, rises_from}
use Rattle.sg_model.specs.Values.{Opening}
use Rattle.sg_protocol.specs.Frame.{Item, Frame, IsItem, IsOpening}
use Rattle.sg_protocol.specs.Graph.{AreNumbers}
use Rattle.sg_protocol.specs.Spelling.{HasSpelling}
use Rattle.sg_role.specs.Looking.{HasRisingVars}
use Rattle.sg_role.proofs.Rising.{and_both}

pub all_at : {A : Type 0} (P : A → Type 0) (xs : List A) → AllByRecursion P xs → All P xs
all_at P [] a k d l = absurd (omega (arith, l))
all_at P (x ∷ xs) a zero d l = a.0
all_at P (x ∷ xs) a (suc k) d l = all_at P xs a.1 k d (omega (arith, l))

pub all_map : {A : Type 0} (P Q : A → Type 0) (xs : List A) → ((x : A) → P x → Q x) → AllByRecursion P xs → AllByRecursion Q xs
all_map P Q [] f a = tt
all_map P Q (x ∷ xs) f a = (f x a.0, all_map P Q xs f a.1)

less : (x n : ℕ) → x < n → nat_lt x n ≡ true
less x n l = grind (arith, nat_tests)

keys_less : {A : Type 0} (n : ℕ) (P : ℕ × A → Type 0) (m : Map A) → AllByRecursion (λ (w : ℕ × A). (w.0 < n) × P w) m → list_all (λ k. nat_lt k n) (keys_of m) ≡ true
keys_less n P [] a = refl
keys_less n P (w ∷ ws) a = and_both (nat_lt w.0 n) (list_all (λ k. nat_lt k n) (keys_of ws)) (less w.0 n a.0.0) (keys_less n P ws a.1)

pub rising_vars : (v : ℕ) (i : Item) → IsItem v i → HasRisingVars i
rising_vars v i is = and_both (rises_from 0 (keys_of i.delta)) (list_all (λ k. nat_lt k 32) (keys_of i.delta)) is.variables.1 (keys_less 32 _ i.delta is.delta)

pub items_rise : (f : Frame) → HasSpelling f → All HasRisingVars f.items
items_rise f h = all_at HasRisingVars f.items (all_map (IsItem f.version) HasRisingVars f.items (rising_vars f.version) h.fields.items)

pub tags_rise : (f : Frame) → HasSpelling f → All (λ (i : Item). AreNumbers 16 (keys_of i.tags) × (i.role < 16)) f.items
tags_rise f h = all_at _ f.items (all_map (IsItem f.version) (λ (i : Item). AreNumbers 16 (keys_of i.tags) × (i.role < 16)) f.items
    (λ i is. (and_both (rises_from 0 (keys_of i.tags)) (list_all (λ k. nat_lt k 16) (keys_of i.tags)) is.roles.1 (keys_less 16 _ i.tags is.tags), is.role)) h.fields.items)

pub openings_rise : (f : Frame) → HasSpelling f → AreNumbers 32 (map (λ (o : Opening). o.variable) f.openings)
openings_rise f h = and_both (rises_from 0 (map (λ (o : Opening). o.variable) f.openings)) (list_all (λ k. nat_lt k 32) (map (λ (o : Opening). o.variable) f.openings)) h.fields.variables.1 (go f.openings h.fields.openings)
  where
    go : (os : List Opening) → AllByRecursion IsOpening os → list_all (λ k. nat_lt k 32) (map (λ (o : Opening). o.variable) os) ≡ true
    go [] a = refl
    go (o ∷ os) a = and_both (nat_lt o.variable 32) (list_all (λ k. nat_lt k 32) (map (λ (o : Opening). o.variable) os)) (less o.variable 32 a.0.variable) (go os a.1)

-- ---- the last item

last_get : {A : Type 0} (x : A) (xs : List A) (d : A) → last_or x xs ≡ get_or (x ∷ xs) (length xs) d
last_get x [] d = refl
last_get x (y ∷ ys) d = last_get y ys d

pub last_at : {A : Type 0} (xs : List A) (d : A) → 0 < length xs → last xs ≡ Some (get_or xs (length xs - 1) d)
last_at [] d l = absurd (omega (arith, l))
last_at (x ∷ xs) d l = ap (λ z. Some z) (last_get x xs d ∙ ap (λ n. get_or (x ∷ xs) n d) (same (length xs)))
  where
    same : (n : ℕ) → n ≡ suc n - 1
    same n = omega arith

pub last_all : {A : Type 0} (P : A → Type 0) (xs : List A) (x : A) → All P xs → last xs ≡ Some x → P x
last_all P [] x a e = absurd (cc)
last_all P (y ∷ ys) x a e = subst P (some_is (get_or (y ∷ ys) (length (y ∷ ys) - 1) x) x (sym (last_at (y ∷ ys) x (omega arith)) ∙ e)) (a (length (y ∷ ys) - 1) x (omega arith))
  where
    some_is : {A : Type 0} (y x : A) → Some y ≡ Some x → y ≡ x
    some_is y x e = cc
