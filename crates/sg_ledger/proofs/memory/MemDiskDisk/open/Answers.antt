use Rattle.std.proofs.Common.{length, subst, sym}
use Rattle.sg_ledger.specs.Disk.{Elapses}
use Rattle.sg_ledger.specs.Memory.{platter, IsImage, LeftSince}
use Rattle.sg_ledger.specs.Model.{DiskHeld}
use Rattle.sg_ledger.proofs.memory.MemDiskDisk.open.Goals as goal

pub returns-then-not-has_room_for-clause-time : goal.returns-then-not-has_room_for-clause-time
returns-then-not-has_room_for-clause-time c =
    subst (λ (d : DiskHeld). Elapses (length c.args.self.now.medium.calls) (length d.medium.calls) (LeftSince c.args.self.now.medium) (LeftSince d.medium) (IsImage (platter d.medium))) (sym c.self.view_is) c.in_ok-keep.ensures.time

pub returns-clause-time : goal.returns-clause-time
returns-clause-time c =
    subst (λ (d : DiskHeld). Elapses (length c.args.self.now.medium.calls) (length d.medium.calls) (LeftSince c.args.self.now.medium) (LeftSince d.medium) (IsImage (platter d.medium))) (sym c.self.view_is) c.in_ok-keep.ensures.time
