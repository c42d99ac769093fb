-- The law of prefixes.
use Rattle.sg_protocol.proofs.ReadLaws.{spelling-alone}
use Rattle.sg_protocol.proofs.no_frame_begins_another.Goals as goal

pub returns : goal.returns
returns c = spelling-alone
