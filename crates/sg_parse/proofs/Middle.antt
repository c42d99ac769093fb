-- What holds of a list holds of an element in its middle.
use Rattle.std.proofs.Common.{◌≡◌, ℕ, zero, suc, ◌<◌, not, Bool, true, false, ◌&&◌, List, [], ◌∷◌, ◌++◌, length, get_or, bytes_eq, refl, arith}
use Rattle.std.specs.Prelude.{All}
use Rattle.std.specs.List.{list_all}
use Rattle.std.proofs.lemmas.Bool.{not-true, and_parts}
use Rattle.sg_model.specs.Lists.{has_text, all_differ}
use Rattle.sg_model.specs.Names.{Name, is_name, reserved}
use Rattle.sg_model.proofs.Small.{bytes_eq-flip, first_false, second_false}
use Rattle.sg_protocol.specs.Graph.{AreNames}

-- what holds of all holds of one in the middle
pub all-middle : {X : Type 0} (P : X → Type 0) (xs : List X) (x : X) (ys : List X) → All P (xs ++ x ∷ ys) → P x
all-middle P [] x ys all = all 0 x (omega arith)
all-middle P (z ∷ zs) x ys all = all-middle P zs x ys (λ k d l. all (suc k) d (omega (arith, l)))

-- a test that all pass is passed by one in the middle
pub list_all-middle : {X : Type 0} (p : X → Bool) (xs : List X) (x : X) (ys : List X) → list_all p (xs ++ x ∷ ys) ≡ true → p x ≡ true
list_all-middle p [] x ys h = (and_parts (p x) (list_all p ys) h).0
list_all-middle p (z ∷ zs) x ys h = list_all-middle p zs x ys (and_parts (p z) (list_all p (zs ++ x ∷ ys)) h).1

-- a name that isn't in a list isn't the one in its middle
not_middle : (m : Name) (ns : List Name) (n : Name) (ms : List Name) → has_text m (ns ++ n ∷ ms) ≡ false → bytes_eq m n ≡ false
not_middle m [] n ms h = first_false (bytes_eq m n) (has_text m ms) h
not_middle m (k ∷ ns) n ms h = not_middle m ns n ms (second_false (bytes_eq m k) (has_text m (ns ++ n ∷ ms)) h)

-- of names that differ none stands before itself
pub new-middle : (ns : List Name) (n : Name) (ms : List Name) → all_differ (ns ++ n ∷ ms) ≡ true → has_text n ns ≡ false
new-middle [] n ms h = refl
new-middle (m ∷ ns) n ms h =
    let parts = and_parts (not (has_text m (ns ++ n ∷ ms))) (all_differ (ns ++ n ∷ ms)) h in
    let apart : bytes_eq n m ≡ false = bytes_eq-flip m n (not_middle m ns n ms (not-true (has_text m (ns ++ n ∷ ms)) parts.0)) in
    rw apart (new-middle ns n ms parts.1)

-- a name in the middle of names is free and new
pub name-middle : (ns : List Name) (n : Name) (ms : List Name) → AreNames (ns ++ n ∷ ms) → (has_text n reserved ≡ false) × (has_text n ns ≡ false)
name-middle ns n ms h =
    let p : Name → Bool = λ n. is_name n && not (has_text n reserved) in
    let parts = and_parts (list_all p (ns ++ n ∷ ms)) (all_differ (ns ++ n ∷ ms)) h in
    (not-true (has_text n reserved) (and_parts (is_name n) (not (has_text n reserved)) (list_all-middle p ns n ms parts.0)).1, new-middle ns n ms parts.1)

-- the name at an index is free
pub name-at : (ns : List Name) (r : ℕ) → r < length ns → list_all (λ n. is_name n && not (has_text n reserved)) ns ≡ true → has_text (get_or ns r []) reserved ≡ false
name-at [] r l h = absurd (omega arith)
name-at (n ∷ ns) zero l h = not-true (has_text n reserved) (and_parts (is_name n) (not (has_text n reserved)) (and_parts (is_name n && not (has_text n reserved)) (list_all (λ n. is_name n && not (has_text n reserved)) ns) h).0).1
name-at (n ∷ ns) (suc r) l h = name-at ns r (omega arith) (and_parts (is_name n && not (has_text n reserved)) (list_all (λ n. is_name n && not (has_text n reserved)) ns) h).1
