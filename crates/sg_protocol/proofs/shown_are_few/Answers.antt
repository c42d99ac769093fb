-- What is shown has few items.
use Rattle.sg_protocol.proofs.Bounds.{shown_once, shown_are_few}
use Rattle.sg_protocol.proofs.shown_are_few.Goals as goal

pub returns : goal.returns
returns c = record { once = shown_once; few = shown_are_few }
