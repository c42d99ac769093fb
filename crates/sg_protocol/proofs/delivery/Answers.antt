-- The law of awaited frames.
use Rattle.sg_protocol.proofs.Awaited.{delivery_is_complete}
use Rattle.sg_protocol.proofs.delivery.Goals as goal

pub returns : goal.returns
returns c = delivery_is_complete
