-- The laws of a disk, of one in memory.
use Rattle.std.proofs.Common.{◌≡◌, ◌⊎◌, inl, inr, ℕ, ◌≤◌, List, length, take, Option, refl, sym, ap, subst, arith, true≢false}
use Rattle.std.specs.Prelude.{None, Some, is_some, unwrap_or}
use Rattle.std.proofs.lemmas.List.{take_all}
use Rattle.sg_ledger.specs.Memory.{Platter, at_rest, after_calls, IsImage, Medium, platter_at, platter, LeftSince}

pub seen_is_image : (m : Medium) (file : List ℕ) → Some (platter m).seen ≡ Some file → IsImage (platter m) file
seen_is_image m file is = inl (sym (ap (λ (o : Option (List ℕ)). unwrap_or o file) is))

-- what stands after all calls
whole : (m : Medium) (k : ℕ) → length m.calls ≤ k → platter_at m k ≡ platter m
whole m k le = ap (λ calls. after_calls (at_rest m.start) calls m.written) (take_all k m.calls le)

pub now_counts : (m : Medium) (t : ℕ) (image : List ℕ) → t ≤ length m.calls → IsImage (platter m) image → LeftSince m t image
now_counts m t image le is = (length m.calls, le, omega arith, subst (λ (p : Platter). IsImage p image) (sym (whole m (length m.calls) (omega arith))) is)

pub now_only : (m : Medium) (image : List ℕ) → LeftSince m (length m.calls) image → IsImage (platter m) image
now_only m image left = subst (λ (p : Platter). IsImage p image) (whole m left.0 left.1) left.3

-- what is not known is no file
pub never_seen : (file : List ℕ) → None ≡ Some file → ⊥
never_seen file is = true≢false (ap is_some (sym is))
