-- The law of standard descriptors, of those in memory and of those of which nothing is known.
use Rattle.std.proofs.Common.{◌≡◌, ℕ, ◌≤◌, List, length, Bool, true, false, sym, ap, subst, true≢false, arith}
use Rattle.std.specs.Prelude.{None, Some, is_some, unwrap_or}
use Rattle.sg_system.specs.Memory.{DescriptorsHeld, all_free, if_free}
use Rattle.std.specs.Prelude.{◌++◌}

-- three lists of at most one
few : (input output error : Bool) → length (if_free input 0 ++ if_free output 1 ++ if_free error 2) ≤ 3
few true true true = omega arith
few true true false = omega arith
few true false true = omega arith
few true false false = omega arith
few false true true = omega arith
few false true false = omega arith
few false false true = omega arith
few false false false = omega arith

pub at_most_three : (d : DescriptorsHeld) (all : List ℕ) → Some (all_free d) ≡ Some all → length all ≤ 3
at_most_three d all is = subst (λ xs. length xs ≤ 3) (ap (λ o. unwrap_or o all) is) (few d.input d.output d.error)

-- what is not known is no list
pub never_seen : (all : List ℕ) → None ≡ Some all → length all ≤ 3
never_seen all is = absurd (true≢false (ap is_some (sym is)))
