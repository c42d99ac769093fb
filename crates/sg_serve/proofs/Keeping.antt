-- What a request keeps of the disk and of the ledger.
use Rattle.std.proofs.Common.{◌≡◌, ◌⊎◌, inr, Option, is_some, OnOk, Result, Ok, Err, refl, ap}
use Rattle.std.specs.Prelude.{IfErr}
use Rattle.sg_ledger.specs.Format.{OpenLedger}
use Rattle.sg_ledger.specs.declared.disk.Disk as Disk
use Rattle.sg_play.specs.Representation.{KeepsJoins}
use Rattle.sg_play.specs.Steps.{Step}
use Rattle.sg_play.proofs.Counting.{alone_same, other_fault}
use Rattle.sg_play.proofs.Results.{mapped}
use Rattle.sg_serve.specs.declared.fault.ServeFault.{ServeFault}
use Rattle.sg_serve.specs.declared.fault.ServeFault.TheVariants.{DiskFailed, OutOfMemory}
use Rattle.sg_serve.specs.declared.server.Server.{Server}
use Rattle.sg_serve.specs.Representation.{HoldsJoins, KeepsLedger, some_ok}
use Rattle.sg_serve.proofs.Asking.{holds_on}
use Rattle.sg_serve.proofs.Counting.{disk_unasked}
use Rattle.sg_serve.proofs.Lining.{on_ok, some_counted, some_if_err, some_on_ok}
use Rattle.sg_serve.proofs.Results.{both_ok}

-- what fails for memory fails for the disk or for memory
pub by_memory : {A : Type 0} (r : Result A ServeFault) → IfErr r (λ e. e ≡ OutOfMemory) → IfErr r (λ e. (e ≡ DiskFailed) ⊎ (e ≡ OutOfMemory))
by_memory (Ok a) h = tt
by_memory (Err f) h = inr h

module _ {D A : Type 0} {disk : Disk.Ghosts D} {d : D} where
  -- nothing was asked of the disk, and the server is as before
  pub unasked : {sv : Server} (r : Result A ServeFault) → IfErr r (λ e. e ≡ OutOfMemory) → HoldsJoins sv (disk.may_leave d) → KeepsLedger disk sv.ledger d d sv r
  unasked r memory h = record { disk_bound = refl; faults = disk_unasked r memory; untouched = λ none. refl; causes = by_memory r memory; same = on_ok r _ refl; holds = on_ok r _ h }

  -- or it went on without a join
  pub unasked_by : (old new : Server) (r : Result A ServeFault) → IfErr r (λ e. e ≡ OutOfMemory) → HoldsJoins old (disk.may_leave d) → OnOk r (KeepsJoins old.player.node new.player.node) → OnOk r (new.ledger ≡ old.ledger)
      → KeepsLedger disk old.ledger d d new r
  unasked_by old new r memory h keeps same = record {
    disk_bound = refl;
    faults = disk_unasked r memory;
    untouched = λ none. refl;
    causes = by_memory r memory;
    same = mapped r (new.ledger ≡ old.ledger) (is_some new.ledger ≡ is_some old.ledger) (λ e. ap is_some e) same;
    holds = both_ok r (KeepsJoins old.player.node new.player.node) (new.ledger ≡ old.ledger) (HoldsJoins new (disk.may_leave d)) (λ k e. holds_on old new (disk.may_leave d) h e k) keeps same;
  }

  -- memory ran out before the disk was asked
  pub ran_out : {had : Option OpenLedger} {sv : Server} → KeepsLedger {A = A} disk had d d sv (Err OutOfMemory)
  ran_out = record { disk_bound = refl; faults = alone_same refl (other_fault refl (λ e. absurd (cc))); untouched = λ none. refl; causes = inr refl; same = tt; holds = tt }

-- an answer that there is
pub some_kept : {D : Type 0} {disk : Disk.Ghosts D} {had : Option OpenLedger} {old new : D} {sv : Server} (r : Result Step ServeFault) (x : Result (Option Step) ServeFault) → x ≡ some_ok r → KeepsLedger disk had old new sv r → KeepsLedger disk had old new sv x
some_kept r x e h = record { disk_bound = h.disk_bound; faults = some_counted r e h.faults; untouched = h.untouched; causes = some_if_err r x _ e h.causes; same = some_on_ok r x _ e h.same; holds = some_on_ok r x _ e h.holds }
