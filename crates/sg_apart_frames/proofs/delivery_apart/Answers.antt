-- A frame that is awaited is accepted.
use Rattle.sg_apart_frames.proofs.Delivery.{delivery_is_complete_apart}
use Rattle.sg_apart_frames.proofs.Honest.{honest_delivery_is_complete}
use Rattle.sg_apart_frames.proofs.delivery_apart.Goals as goal

pub returns : goal.returns
returns c = record { runs = delivery_is_complete_apart; pasts = honest_delivery_is_complete }
