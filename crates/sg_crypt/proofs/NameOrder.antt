-- Bytes that stand before others.
use Rattle.std.proofs.Common.{◌≡◌, ℕ, Bool, List, refl, arith, Some}
use Rattle.std.proofs.lemmas.Bool.Decides.{nat_tests}
use Rattle.std.proofs.lemmas.Cmp.{same_from_slice_cmp_tested}
use Rattle.std.specs.Cmp.Lexicographic.{slice_partial_cmp}
use Rattle.std.specs.Ordering.{nat_cmp, is_lt, is_some_and}
use Rattle.sg_protocol.specs.Notes.{text_before}

-- a slice is less if its bytes stand before
pub is_before : (xs ys : List ℕ) (r : Bool) → r ≡ is_some_and is_lt (slice_partial_cmp (λ x y. Some (nat_cmp x y)) xs ys) → r ≡ text_before xs ys
is_before = same_from_slice_cmp_tested nat_cmp is_lt text_before refl (λ _ _. refl) (λ _ _. refl) (λ x y xs ys o h. grind (arith, nat_tests))
