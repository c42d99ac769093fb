-- Counts of faults, over calls one after another.
use Rattle.std.proofs.Common.{◌≡◌, ◌≢◌, ◌⊎◌, inl, inr, ℕ, Result, Ok, Err, refl, le_trans, arith}
use Rattle.std.specs.Prelude.{IfErr}
use Rattle.sg_play.proofs.Counting.{alone_as, alone_same, alone_then, no_fault, other_fault}
use Rattle.sg_play.specs.Faults.{CountsFaultAlone}
use Rattle.sg_serve.specs.declared.fault.ServeFault.{ServeFault}
use Rattle.sg_serve.specs.declared.fault.ServeFault.TheVariants.{InputFailed, WriteFailed, DiskFailed, OutOfMemory}
use Rattle.sg_serve.specs.Faults.{Counts, CountsFaults}

-- ---- one count

-- nothing was asked of the disk
pub disk_unasked : {A : Type 0} {n : ℕ} (r : Result A ServeFault) → IfErr r (λ e. e ≡ OutOfMemory) → CountsFaultAlone DiskFailed n n r
disk_unasked (Ok a) h = alone_same refl (no_fault a)
disk_unasked (Err f) h = alone_same refl (other_fault refl (λ e. absurd (cc)))

-- the disk failed, or memory ran out, and no write failed
pub not_write : {f : ServeFault} → (f ≡ DiskFailed) ⊎ (f ≡ OutOfMemory) → f ≢ WriteFailed
not_write (inl d) e = cc
not_write (inr m) e = cc

module _ {A B : Type 0} {fault : ServeFault} {old new : ℕ} where
  -- a call that went on, and nothing then
  pub alone_went : {a : A} (b : B) → CountsFaultAlone fault old new (Ok a) → CountsFaultAlone fault old new (Ok b)
  alone_went b h = alone_as (λ e. absurd (cc)) (λ e. absurd (cc)) h

  -- its fault is passed on
  pub alone_passed : {f : ServeFault} {r : Result B ServeFault} → r ≡ Err f → CountsFaultAlone {A = A} fault old new (Err f) → CountsFaultAlone fault old new r
  alone_passed is h = alone_as (λ e. cc) (λ e. cc) h

-- ---- all counts

-- nothing was counted
pub none_counted : {A : Type 0} (c : Counts) (a : A) → CountsFaults c c (Ok a)
none_counted c a = record { link_falls = omega arith; out = alone_same refl (no_fault a); disk = alone_same refl (no_fault a) }

-- the input failed, or memory ran out
pub none_failed : {A : Type 0} {c : Counts} {f : ServeFault} {r : Result A ServeFault} → (f ≡ InputFailed) ⊎ (f ≡ OutOfMemory) → r ≡ Err f → CountsFaults c c r
none_failed (inl i) is = record { link_falls = omega arith; out = alone_same refl (other_fault is (λ e. absurd (cc))); disk = alone_same refl (other_fault is (λ e. absurd (cc))) }
none_failed (inr m) is = record { link_falls = omega arith; out = alone_same refl (other_fault is (λ e. absurd (cc))); disk = alone_same refl (other_fault is (λ e. absurd (cc))) }

module _ {A B : Type 0} {old new : Counts} where
  -- a call that went on, and nothing then
  pub counted_went : {a : A} (b : B) → CountsFaults old new (Ok a) → CountsFaults old new (Ok b)
  counted_went b h = record { link_falls = h.link_falls; out = alone_went b h.out; disk = alone_went b h.disk }

  -- its fault is passed on
  pub counted_passed : {f : ServeFault} {r : Result B ServeFault} → r ≡ Err f → CountsFaults {A = A} old new (Err f) → CountsFaults old new r
  counted_passed is h = record { link_falls = h.link_falls; out = alone_passed is h.out; disk = alone_passed is h.disk }

-- a call that went on, and then another
pub counted_then : {A B : Type 0} {old mid new : Counts} {a : A} {r : Result B ServeFault} → CountsFaults old mid (Ok a) → CountsFaults mid new r → CountsFaults old new r
counted_then {a = a} h k = record {
  link_falls = le_trans h.link_falls k.link_falls;
  out = alone_then ((h.out).same (no_fault a)) k.out;
  disk = alone_then ((h.disk).same (no_fault a)) k.disk;
}
