-- The law of ledgers that are opened.
use Rattle.sg_principal.proofs.OneOpening.{openings_by_bytes}
use Rattle.sg_top.proofs.laws.ledger_is_opened_once.Goals as goal

pub returns : goal.returns
returns g c = openings_by_bytes g.D.Disk
