-- The law of deliveries over restarts.
use Rattle.sg_restarts.proofs.Delivery.{delivery_is_complete_over_restarts}
use Rattle.sg_restarts.proofs.delivery_over_restarts.Goals as goal

pub returns : goal.returns
returns c = delivery_is_complete_over_restarts
