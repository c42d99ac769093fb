use Rattle.sg_claims_text.specs.Written.{written}
use Rattle.sg_claims_text.proofs.GivesClaims.{spells-read}
use Rattle.sg_claims_text.proofs.Lexed.{written-spells}
use Rattle.sg_claims_text.proofs.written.written_texts_are_read.Goals as goal

pub returns-clause-spelled : goal.returns-clause-spelled
returns-clause-spelled c = λ g cs is few are all. written-spells g is cs few are all

pub returns-clause-read : goal.returns-clause-read
returns-clause-read c = λ g cs is few are all. spells-read g (written g cs) cs is (written-spells g is cs few are all)
