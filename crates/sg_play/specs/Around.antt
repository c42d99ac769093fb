-- A link and a sink, as a call finds them and as it leaves them.
use Rattle.std.specs.Prelude.{◌≡◌, Result}
use Rattle.sg_base.specs.declared.outside.Link as Link
use Rattle.sg_base.specs.declared.outside.Sink as Sink
use Rattle.sg_play.specs.declared.fault.PlayFault.{PlayFault}
use Rattle.sg_play.specs.Ends.{Outside}
use Rattle.sg_play.specs.Faults.{Counts, CountsFaults}

-- what is known of the bytes written and the frames sent
abbrev pub outside_of : {L O : Type 0} → Link.Ghosts L → Sink.Ghosts O → L → O → Outside
outside_of link out l o = record { written = out.written o; sent = link.sent l }

-- how often calls of them failed
abbrev pub counts_of : {L O : Type 0} → Link.Ghosts L → Sink.Ghosts O → L → O → Counts
counts_of link out l o = record { link = link.faults l; out = out.faults o }

-- after a call the link waits where it did, and the same deliveries are to come; and the faults of the link and the sink are counted
pub record KeepsLink {L O A : Type 0} (link : Link.Ghosts L) (out : Sink.Ghosts O) (l l' : L) (o o' : O) (result : Result A PlayFault) : Type 0 where
  pub bound : link.bound l' ≡ link.bound l
  pub deliveries : link.deliveries l' ≡ link.deliveries l
  pub faults : CountsFaults (counts_of link out l o) (counts_of link out l' o') result
