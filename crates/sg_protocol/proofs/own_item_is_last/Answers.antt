-- The law of the own item.
use Rattle.sg_protocol.proofs.OwnItem.{own_item_is_last}
use Rattle.sg_protocol.proofs.own_item_is_last.Goals as goal

pub returns : goal.returns
returns c = own_item_is_last
