use Rattle.std.proofs.Common.{◌≡◌, ◌≢◌, ◌∙◌, Err, inl, inr, refl, sym, ap, subst}
use Rattle.sg_base.specs.Outside.{HasRisen}
use Rattle.sg_ledger.specs.Disk.{IfSeen}
use Rattle.sg_ledger.specs.Opening.{Refuses}
use Rattle.sg_ledger.specs.declared.ledger.OpenFault.{OpenFault}
use Rattle.sg_ledger.specs.declared.ledger.OpenFault.TheVariants.{NotALedger, BadSlot, Failed, OutOfMemory}
use Rattle.sg_play.proofs.Counting.{no_fault, other_fault}
use Rattle.sg_ending.proofs.Files.{rises}
use Rattle.sg_principal.specs.Ledgers.{LacksLedger, ending_of_open}
use Rattle.sg_principal.specs.Outside.{Disked, disk_of}
use Rattle.sg_principal.proofs.Meanwhile.{meanwhile_opened, meanwhile_opening}
use Rattle.sg_principal.proofs.joins.open_ledger.Goals as goal

-- no ledger is opened, with this fault
lacks : (disk disk' : Disked) (fault : OpenFault) → IfSeen disk.seen (λ file. Refuses file fault) → (fault ≡ Failed → HasRisen disk.faults disk'.faults) → (fault ≢ Failed → disk'.faults ≡ disk.faults)
    → LacksLedger disk disk' (ending_of_open fault)
lacks disk disk' NotALedger refused failed other = (refused, other (λ e. absurd cc))
lacks disk disk' (BadSlot slot) refused failed other = (refused, other (λ e. absurd cc))
lacks disk disk' Failed refused failed other = failed refl
lacks disk disk' OutOfMemory refused failed other = other (λ e. absurd cc)

pub returns-in-Err-clause-left : goal.returns-in-Err-clause-left
returns-in-Err-clause-left g c = (c.open.ensures.kept, c.open.ensures.images)

pub returns-in-Ok-open-clause-opened : goal.returns-in-Ok-open-clause-opened
returns-in-Ok-open-clause-opened g c = λ file seen. c.in-Ok-open.ensures.joins file (c.open.ensures.kept ∙ seen)

pub returns-in-Ok-open-clause-no_fault : goal.returns-in-Ok-open-clause-no_fault
returns-in-Ok-open-clause-no_fault g c = c.in-Ok-open.ensures.no_fault (no_fault _) ∙ c.in-Ok.ensures.no_fault

pub returns-in-Ok-open-clause-left : goal.returns-in-Ok-open-clause-left
returns-in-Ok-open-clause-left g c = (c.open-2.ensures.kept ∙ c.open.ensures.kept, λ image left. c.open.ensures.images image (c.open-2.ensures.keeps image left))

pub returns-in-Err-open-clause-left : goal.returns-in-Err-open-clause-left
returns-in-Err-open-clause-left g c = (c.open-2.ensures.kept ∙ c.open.ensures.kept, λ image left. c.open.ensures.images image (c.open-2.ensures.keeps image left))

pub returns-in-Err-open-clause-lacks : goal.returns-in-Err-open-clause-lacks
returns-in-Err-open-clause-lacks g c =
    subst (LacksLedger (disk_of g.D.Disk c.args.disk.now) (disk_of g.D.Disk c.open-2.new.disk)) (sym c.ended.ensures)
    (lacks (disk_of g.D.Disk c.args.disk.now) (disk_of g.D.Disk c.open-2.new.disk) c.in-Err-open.fault (λ file seen. c.in-Err-open.ensures.refused file (c.open.ensures.kept ∙ seen))
    (λ e. rises (g.D.Disk.faults c.args.disk.now) (g.D.Disk.faults c.open.new.self) (g.D.Disk.faults c.open-2.new.disk) c.open.ensures.never_falls c.open-2.ensures.never_falls
    (c.open-2.ensures.failed (c.in-Err-open.is ∙ ap (λ (f : OpenFault). Err f) e)))
    (λ n. c.open-2.ensures.no_fault (other_fault c.in-Err-open.is n) ∙ c.in-Ok.ensures.no_fault))

pub returns-in-Err-clause-tried : goal.returns-in-Err-clause-tried
returns-in-Err-clause-tried g c = inr (refl, c.in-Err.ensures.failed, c.in-Err.ensures.kept_bound, (c.open.ensures.kept, c.open.ensures.images))

pub returns-in-Err-open-clause-tried : goal.returns-in-Err-open-clause-tried
returns-in-Err-open-clause-tried g c = inl (c.open-2.ensures.kept_bound ∙ c.in-Ok.ensures.binds)

pub returns-in-Err-clause-any_moment : goal.returns-in-Err-clause-any_moment
returns-in-Err-clause-any_moment g c = meanwhile_opening g.D.Disk c.args.disk.now c.open.new.self (g.met.D.Disk.only_now c.args.disk.now) c.open.ensures.time c.open.ensures.images

pub returns-in-Ok-open-clause-any_moment : goal.returns-in-Ok-open-clause-any_moment
returns-in-Ok-open-clause-any_moment g c =
    meanwhile_opened g.D.Disk c.args.disk.now c.open.new.self (g.met.D.Disk.only_now c.args.disk.now) c.open.ensures.time c.open.ensures.images c.open-2.new.disk c.open-2.ensures.any_moment

pub returns-in-Err-open-clause-any_moment : goal.returns-in-Err-open-clause-any_moment
returns-in-Err-open-clause-any_moment g c =
    meanwhile_opened g.D.Disk c.args.disk.now c.open.new.self (g.met.D.Disk.only_now c.args.disk.now) c.open.ensures.time c.open.ensures.images c.open-2.new.disk c.open-2.ensures.any_moment
