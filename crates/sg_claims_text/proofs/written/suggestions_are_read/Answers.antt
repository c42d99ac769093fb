use Rattle.sg_claims_text.specs.Written.{written}
use Rattle.sg_claims_text.proofs.GivesClaims.{spells-read}
use Rattle.sg_claims_text.proofs.Suggested.{suggestion-spells}
use Rattle.sg_claims_text.proofs.written.suggestions_are_read.Goals as goal

pub returns-clause-spelled : goal.returns-clause-spelled
returns-clause-spelled c = λ g cs is s. suggestion-spells g cs is s

pub returns-clause-read : goal.returns-clause-read
returns-clause-read c = λ g cs is s. spells-read g (written g cs) cs is (suggestion-spells g cs is s)
