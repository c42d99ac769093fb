-- The law of returns.
use Rattle.sg_protocol.proofs.Returns.{tables_show_returns}
use Rattle.sg_protocol.proofs.tables_show_returns.Goals as goal

pub returns : goal.returns
returns c = tables_show_returns
