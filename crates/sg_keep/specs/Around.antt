-- A link, a sink and a disk, as a call finds them and as it leaves them.
use Rattle.std.specs.Prelude.{◌≡◌, Result}
use Rattle.sg_base.specs.declared.outside.Link as Link
use Rattle.sg_base.specs.declared.outside.Sink as Sink
use Rattle.sg_ledger.specs.declared.disk.Disk as Disk
use Rattle.sg_keep.specs.declared.fault.KeepFault.{KeepFault}
use Rattle.sg_keep.specs.Faults.{Counts, CountsFaults}

-- how often calls of them failed
abbrev pub counts_of : {L O D : Type 0} → Link.Ghosts L → Sink.Ghosts O → Disk.Ghosts D → L → O → D → Counts
counts_of link out disk l o d = record { link = link.faults l; out = out.faults o; disk = disk.faults d }

-- after a call the link and the disk are bound as before, and the same deliveries are to come; and the faults of all three are counted
pub record KeepsBound {L O D A : Type 0} (link : Link.Ghosts L) (out : Sink.Ghosts O) (disk : Disk.Ghosts D) (l l' : L) (o o' : O) (d d' : D) (result : Result A KeepFault) : Type 0 where
  pub link_bound : link.bound l' ≡ link.bound l
  pub disk_bound : disk.bound d' ≡ disk.bound d
  pub deliveries : link.deliveries l' ≡ link.deliveries l
  pub faults : CountsFaults (counts_of link out disk l o d) (counts_of link out disk l' o' d') result
