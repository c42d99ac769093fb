-- What the derived `==` of a pair of session and role decides, and what follows for a set of such pairs.
use Rattle.std.proofs.Common.{◌≡◌, ℕ, ◌==◌, bytes_eq, Bool, true, false, ◌&&◌, sym, ap, refl, subst, List, [], ◌∷◌, ◌++◌, if◌then◌else◌, Contains, IsTrue, ◌↔◌}
use Rattle.std.specs.Bool.{Decides}
use Rattle.std.specs.List.{list_any}
use Rattle.std.proofs.lemmas.Slice.Eq.{slice_eq-Decides, bytes_eq-Decides}
use Rattle.std.proofs.lemmas.List.Folds.{list_any_at}
use Rattle.std.proofs.lemmas.Bool.Decides.{Decides-eqb, Decides-and, Decides-like, same_from_decides}
use Rattle.indexmap.proofs.CallerLemmas.{Contains-list_any}
use Rattle.indexmap.specs.IndexSet.{insert_key}
use Rattle.sg_base.specs.contracts.number.SidPartialEq.TheImpl.{eq-value as same_sid}
use Rattle.sg_base.specs.contracts.number.RolePartialEq.TheImpl.{eq-value as same_role}

-- a pair of session and role
abbrev pub Join : Type 0
Join = List ℕ × ℕ

-- the derived `==` of pairs
abbrev pub same : Join → Join → Bool
same a b = same_sid.it a.0 b.0 && same_role.it a.1 b.1

-- it is equality
pub same-Decides : (a b : Join) → Decides (same a b) (a ≡ b)
same-Decides a b = Decides-like _ (λ h i. (h.0 i, h.1 i)) (λ e. (ap (λ (j : Join). j.0) e, ap (λ (j : Join). j.1) e)) (Decides-and _ _ (slice_eq-Decides Decides-eqb a.0 b.0 _ refl) (Decides-eqb a.1 b.1))

-- what `contains` answers says whether the pair is in the list
pub any_same : (xs : List Join) (a : Join) → IsTrue (list_any (same a) xs) ↔ Contains xs a
any_same xs a = (
  λ h. Contains-list_any same (λ x y. (same-Decides x y).0) xs a h,
  λ h. list_any_at (same a) xs h.0 a h.1 (subst (λ b. same a b ≡ true) (sym h.2) ((same-Decides a a).1 refl)),
)

-- a pair that is not there goes last
pub insert_new : (xs : List Join) (a : Join) → ¬ Contains xs a → insert_key same xs a ≡ xs ++ a ∷ []
insert_new xs a absent = by (list_any (same a) xs) refl
  where
    by : (b : Bool) → list_any (same a) xs ≡ b → insert_key same xs a ≡ xs ++ a ∷ []
    by true e = absurd (absent (Contains-list_any same (λ x y. (same-Decides x y).0) xs a e))
    by false e = ap (λ b. if b then xs else xs ++ a ∷ []) e

pub same-parts : (sid : List ℕ) (r : ℕ) (j : Join) → (bytes_eq j.0 sid && (j.1 == r)) ≡ same (sid, r) j
same-parts sid r j = same_from_decides _ _ (Decides-like _ (λ h i. (sym h.0 i, sym h.1 i)) (λ e. (ap (λ (k : Join). k.0) (sym e), ap (λ (k : Join). k.1) (sym e))) (Decides-and _ _ (bytes_eq-Decides j.0 sid) (Decides-eqb j.1 r))) (same-Decides (sid, r) j)

any-parts : (xs : List Join) (sid : List ℕ) (r : ℕ) → list_any (λ (j : Join). bytes_eq j.0 sid && (j.1 == r)) xs ≡ list_any (same (sid, r)) xs
any-parts [] sid r = refl
any-parts (j ∷ js) sid r = rw (same-parts sid r j, any-parts js sid r)

-- a pair stands in a list exactly if a test of both its parts finds it
pub any_of_parts : (xs : List Join) (sid : List ℕ) (r : ℕ) → IsTrue (list_any (λ (j : Join). bytes_eq j.0 sid && (j.1 == r)) xs) ↔ Contains xs (sid, r)
any_of_parts xs sid r = rw (any-parts xs sid r) (any_same xs (sid, r))
