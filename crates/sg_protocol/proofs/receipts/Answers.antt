-- The law of receipts.
use Rattle.sg_protocol.proofs.Sendings.{receipts_have_sends}
use Rattle.sg_protocol.proofs.receipts.Goals as goal

pub returns : goal.returns
returns c = receipts_have_sends
