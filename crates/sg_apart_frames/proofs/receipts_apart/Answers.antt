-- What an honest sender's receipt says.
use Rattle.sg_apart_frames.proofs.Sendings.{receipts_have_sends_apart}
use Rattle.sg_apart_frames.proofs.Honest.{honest_receipts_have_sends}
use Rattle.sg_apart_frames.proofs.receipts_apart.Goals as goal

pub returns : goal.returns
returns c = record { runs = receipts_have_sends_apart; pasts = honest_receipts_have_sends }
