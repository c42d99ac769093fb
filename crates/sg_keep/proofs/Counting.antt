-- Counts of faults, over calls one after another.
use Rattle.std.proofs.Common.{◌≡◌, ◌≤◌, ◌⊎◌, ⊎_elim, ℕ, Result, Ok, Err, refl, ◌∙◌, arith}
use Rattle.sg_base.specs.declared.outside.Link as Link
use Rattle.sg_base.specs.declared.outside.Sink as Sink
use Rattle.sg_base.specs.Outside.{HasRisen}
use Rattle.sg_ledger.specs.declared.disk.Disk as Disk
use Rattle.sg_play.proofs.Counting.{alone_as, alone_same, alone_then, counts_as, counts_fell, counts_rose, counts_then, no_fault}
use Rattle.sg_play.specs.Faults.{CountsFaultAlone, CountsFaults as CountsPlayed}
use Rattle.sg_play.specs.declared.fault.PlayFault.{PlayFault}
use Rattle.sg_play.specs.declared.fault.PlayFault.TheVariants.{LinkFailed, OutOfMemory}
use Rattle.sg_keep.specs.declared.fault.KeepFault.{KeepFault}
use Rattle.sg_keep.specs.declared.fault.KeepFault.TheVariants.{Played, DiskFailed}
use Rattle.sg_keep.specs.Around.{KeepsBound}
use Rattle.sg_keep.specs.Faults.{Counts, CountsFaults}

-- nothing was counted
pub none_counted : {A : Type 0} {c : Counts} (a : A) → CountsFaults c c (Ok a)
none_counted a = record { link = counts_fell (omega arith) (no_fault a); out = alone_same refl (no_fault a); disk = alone_same refl (no_fault a) }

-- memory ran out
pub memory_counted : {A : Type 0} {c : Counts} {f : PlayFault} → f ≡ OutOfMemory → CountsFaults {A = A} c c (Err (Played f))
memory_counted m = record { link = counts_fell (omega arith) (λ e. absurd (cc)); out = alone_same refl (λ e. absurd (cc)); disk = alone_same refl (λ e. absurd (cc)) }

-- a call that went on, and then another
pub counted_then : {A B : Type 0} {old mid new : Counts} {a : A} {r : Result B KeepFault} → CountsFaults old mid (Ok a) → CountsFaults mid new r
    → CountsFaults old new r
counted_then {a = a} h k = record {
  link = counts_then (h.link).falls k.link;
  out = alone_then ((h.out).same (no_fault a)) k.out;
  disk = alone_then ((h.disk).same (no_fault a)) k.disk;
}

module _ {link link' out disk : ℕ} where
  -- the link was asked, and then another call was made
  pub asked_then : {A : Type 0} {new : Counts} {r : Result A KeepFault} → link ≤ link' → CountsFaults (record { link = link'; out = out; disk = disk }) new r
      → CountsFaults (record { link = link; out = out; disk = disk }) new r
  asked_then l h = record { link = counts_then l h.link; out = h.out; disk = h.disk }

  -- the link failed
  pub link_counted : {A : Type 0} → link ≤ link' → HasRisen link link'
      → CountsFaults {A = A} (record { link = link; out = out; disk = disk }) (record { link = link'; out = out; disk = disk }) (Err (Played LinkFailed))
  link_counted l h = record { link = counts_rose l h; out = alone_same refl (λ e. absurd (cc)); disk = alone_same refl (λ e. absurd (cc)) }

module _ {link out disk disk' : ℕ} where
  -- a join was kept, or there was none
  pub kept_counted : {A : Type 0} {a : A} → CountsFaultAlone DiskFailed disk disk' (Ok a)
      → CountsFaults (record { link = link; out = out; disk = disk }) (record { link = link; out = out; disk = disk' }) (Ok a)
  kept_counted {a = a} h = record { link = counts_fell (omega arith) (no_fault a); out = alone_same refl (no_fault a); disk = h }

  -- or it wasn't
  pub unkept_counted : {A : Type 0} {f : KeepFault} → (f ≡ DiskFailed) ⊎ (f ≡ Played OutOfMemory) → CountsFaultAlone {A = A} DiskFailed disk disk' (Err f)
      → CountsFaults {A = A} (record { link = link; out = out; disk = disk }) (record { link = link; out = out; disk = disk' }) (Err f)
  unkept_counted c h = record {
    link = counts_fell (omega arith) (λ e. ⊎_elim (λ d. absurd (cc)) (λ m. absurd (cc)) c);
    out = alone_same refl (λ e. ⊎_elim (λ d. absurd (cc)) (λ m. absurd (cc)) c);
    disk = h;
  }

module _ {A : Type 0} {link link' out out' disk : ℕ} where
  -- the player went on
  pub played_counted : {a : A} → CountsPlayed (record { link = link; out = out }) (record { link = link'; out = out' }) (Ok a)
      → CountsFaults (record { link = link; out = out; disk = disk }) (record { link = link'; out = out'; disk = disk }) (Ok a)
  played_counted {a = a} h = record { link = counts_as (λ e. absurd (cc)) h.link; out = alone_as (λ e. absurd (cc)) (λ e. absurd (cc)) h.out; disk = alone_same refl (no_fault a) }

  -- or it failed
  pub unplayed_counted : {f : PlayFault} → CountsPlayed {A = A} (record { link = link; out = out }) (record { link = link'; out = out' }) (Err f)
      → CountsFaults {A = A} (record { link = link; out = out; disk = disk }) (record { link = link'; out = out'; disk = disk }) (Err (Played f))
  unplayed_counted h = record { link = counts_as (λ e. cc) h.link; out = alone_as (λ e. cc) (λ e. cc) h.out; disk = alone_same refl (λ e. absurd (cc)) }

-- ---- with what is kept of the link and the disk

module _ {L O D : Type 0} {link : Link.Ghosts L} {out : Sink.Ghosts O} {disk : Disk.Ghosts D} where
  module _ {A : Type 0} {l : L} {o : O} {d : D} where
    -- nothing was asked of them
    pub none_kept : (a : A) → KeepsBound link out disk l l o o d d (Ok a)
    none_kept a = record { link_bound = refl; disk_bound = refl; deliveries = refl; faults = none_counted a }

    -- memory ran out
    pub memory_kept : {f : PlayFault} → f ≡ OutOfMemory → KeepsBound {A = A} link out disk l l o o d d (Err (Played f))
    memory_kept m = record { link_bound = refl; disk_bound = refl; deliveries = refl; faults = memory_counted m }

  -- a call that went on, and then another
  pub kept_then : {A B : Type 0} {l m n : L} {o p q : O} {d e f : D} {a : A} {r : Result B KeepFault} → KeepsBound link out disk l m o p d e (Ok a) → KeepsBound link out disk m n p q e f r
      → KeepsBound link out disk l n o q d f r
  kept_then h k = record {
    link_bound = k.link_bound ∙ h.link_bound;
    disk_bound = k.disk_bound ∙ h.disk_bound;
    deliveries = k.deliveries ∙ h.deliveries;
    faults = counted_then h.faults k.faults;
  }
