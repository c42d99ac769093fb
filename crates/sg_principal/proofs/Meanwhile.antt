-- What a crash leaves at the moments of a call, by what its disk reports.
use Rattle.std.proofs.Common.{ℕ, ◌≤◌, false, true, inl, inr, ⊎_elim, List, Option, refl}
use Rattle.sg_keep.specs.KeptRuns.{KeptThroughout, RepresentsAtMost}
use Rattle.sg_ledger.specs.declared.disk.Disk as Disk
use Rattle.sg_ledger.specs.Disk.{Elapses, Keeps, LeavesOnly}
use Rattle.sg_ledger.proofs.Moments.{chained, goes_on, started}
use Rattle.sg_play.specs.Played.{Play}
use Rattle.sg_principal.specs.Ledgers.{IsNotAsked, LeavesMeanwhile, alone_until, left_in, moment_in}
use Rattle.sg_principal.specs.Outside.{Disked, disk_of}

-- what is left from when the ledger was opened on, by what the disk reported before
pub once_opened : (disk disk1 disk2 : Disked) (P : List ℕ → Type 0) → ((t : ℕ) (image : List ℕ) → t ≤ disk.moment → disk.may_leave image → disk.left_since t image)
    → LeavesMeanwhile disk disk1 disk.may_leave → LeavesMeanwhile disk1 disk2 P → LeavesMeanwhile (alone_until disk1.moment disk) disk2 P
once_opened disk disk1 disk2 P counts_now first second = record {
  later = second.later;
  each = second.each;
  before = λ t image le left. ⊎_elim
      (λ was. inl (λ early. ⊎_elim (λ older. older) (counts_now t image early) (first.before t image early was)))
      (λ has. inr has)
      (second.before t image le left);
}

module _ {D : Type 0} (g : Disk.Ghosts D) where
  -- what holds of a disk holds of what it reports
  pub meanwhile : (old new : D) (P : List ℕ → Type 0) → LeavesOnly g.moment g.left_since old new P → LeavesMeanwhile (disk_of g old) (disk_of g new) P
  meanwhile old new P only = record { later = only.later; each = only.each; before = only.before }

  pub kept_throughout : (old new : D) (start now : Option (List ℕ)) (p : Play) → KeptThroughout g.moment g.left_since old new start now p
      → KeptThroughout (moment_in (disk_of g old) (disk_of g new)) (left_in (disk_of g old) (disk_of g new)) false true start now p
  kept_throughout old new start now p k = record {
    count = k.count;
    within = k.within;
    rest = k.rest;
    written = k.written;
    any_moment = meanwhile old new (RepresentsAtMost p.past.first p.past.calls k.count) k.any_moment;
  }

  -- a disk of which nothing is asked
  pub nothing_asked : (disk : D) → ((image : List ℕ) → g.left_since disk (g.moment disk) image → g.may_leave disk image) → IsNotAsked (disk_of g disk) (disk_of g disk)
  nothing_asked disk only_now =
      ((refl, λ image left. left), λ image left. left, meanwhile disk disk (g.may_leave disk) (started g.moment g.left_since disk (g.may_leave disk) only_now), refl, refl)

  module _ (old mid : D) (only_now : (image : List ℕ) → g.left_since old (g.moment old) image → g.may_leave old image) (time : Elapses (g.moment old) (g.moment mid) (g.left_since old) (g.left_since mid) (g.may_leave mid)) (keeps : Keeps (g.may_leave old) (g.may_leave mid)) where
    -- one call that leaves nothing new
    opening : LeavesOnly g.moment g.left_since old mid (g.may_leave old)
    opening = goes_on g.moment g.left_since old old mid (g.may_leave old) (g.may_leave mid) (started g.moment g.left_since old (g.may_leave old) only_now) time keeps

    pub meanwhile_opening : LeavesMeanwhile (disk_of g old) (disk_of g mid) (g.may_leave old)
    meanwhile_opening = meanwhile old mid (g.may_leave old) opening

    -- and then calls that leave what it left
    pub meanwhile_opened : (new : D) → LeavesOnly g.moment g.left_since mid new (g.may_leave mid) → LeavesMeanwhile (disk_of g old) (disk_of g new) (g.may_leave old)
    meanwhile_opened new later = meanwhile old new (g.may_leave old) (chained g.moment g.left_since old mid new (g.may_leave old) (g.may_leave mid) (g.may_leave old) opening later (λ image left. left) keeps)
