-- The law of ledgers that are made.
use Rattle.sg_principal.proofs.OneLedger.{ledgers_by_bytes}
use Rattle.sg_top.proofs.laws.ledger_is_made_once.Goals as goal

pub returns : goal.returns
returns g c = ledgers_by_bytes g.D.Disk
