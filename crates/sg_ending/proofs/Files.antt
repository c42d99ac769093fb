-- Files that are read one after another.
use Rattle.std.proofs.Common.{◌≡◌, ℕ, ◌<◌, ◌≤◌, ◌^◌, ◌-◌, ◌⊎◌, inl, inr, List, Some, length, subst, arith}
use Rattle.std.specs.Prelude.{nat_lt}
use Rattle.std.proofs.lemmas.Bool.{cases_Bool, ltb-true, ltb-false}
use Rattle.sg_base.specs.Outside.{FileFaults, HasRisen}
use Rattle.sg_ending.specs.Ending.{Ending}
use Rattle.sg_ending.specs.Files.{KnownFiles, Has, EndsAt, Holds}

-- a count that rose at the end rose on the whole, or stands where no rise shows, from a number on
rises_below : (m f0 f1 f2 : ℕ) → f0 ≤ f1 → f1 ≤ f2 → (f1 < f2) ⊎ (m ≤ f1) → (f0 < f2) ⊎ (m ≤ f0)
rises_below m f0 f1 f2 a b (inl l) = inl (omega arith)
rises_below m f0 f1 f2 a b (inr l) = elim (cases_Bool (nat_lt f0 f1)) [
  | inl y ↦ (let s = ltb-true f0 f1 y in inl (omega (arith, s)))
  | inr n ↦ (let s = ltb-false f0 f1 n in inr (omega (arith, s)))
]

-- so of a count of faults
pub rises : (f0 f1 f2 : ℕ) → f0 ≤ f1 → f1 ≤ f2 → HasRisen f1 f2 → HasRisen f0 f2
rises f0 f1 f2 a b h = rises_below (2 ^ 64 - 1) f0 f1 f2 a b h

-- it ends at a file after others, which were read and changed nothing of what the files hold
pub ends_later : (most : ℕ) (file : List ℕ) (R : List ℕ → Ending → Type 0) (known known' : KnownFiles) (f0 f1 f2 : FileFaults) (e : Ending) → known' ≡ known → f1 ≡ f0
    → EndsAt known' f1 f2 most file R e → EndsAt known f0 f2 most file R e
ends_later most file R known known' f0 f1 f2 e same none h = subst (λ f. EndsAt known f f2 most file R e) none (subst (λ t. EndsAt t f1 f2 most file R e) same h)

-- a file holds what its bytes are
pub holds : (known : KnownFiles) (most : ℕ) (file bytes read : List ℕ) (Such : List ℕ → Type 0) → read ≡ bytes → Has known file (Some bytes) → length bytes ≤ most → Such read → Holds known most file Such
holds known most file bytes read Such same has few such = (bytes, has, few, subst Such same such)

-- it ends at a file whose bytes are refused
pub refuses : (known : KnownFiles) (f0 f1 : FileFaults) (most : ℕ) (file bytes read : List ℕ) (R : List ℕ → Ending → Type 0) (e : Ending) → read ≡ bytes → Has known file (Some bytes) → length bytes ≤ most → f1 ≡ f0 → R read e
    → EndsAt known f0 f1 most file R e
refuses known f0 f1 most file bytes read R e same has few none r = inr (bytes, has, few, (subst (λ b. R b e) same r, none))
