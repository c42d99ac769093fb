use Rattle.sg_claims_text.proofs.GivesClaims.{spells-read}
use Rattle.sg_claims_text.proofs.TookClaims.{read-spells}
use Rattle.sg_claims_text.proofs.text.readings_are_spelled.Goals as goal

pub returns : goal.returns
returns c = λ g bs cs is. (read-spells g bs cs, spells-read g bs cs is)
