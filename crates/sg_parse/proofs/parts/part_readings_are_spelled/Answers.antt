use Rattle.sg_parse.proofs.TookParts.{read-spells}
use Rattle.sg_parse.proofs.GivesParts.{spells-read}
use Rattle.sg_parse.proofs.parts.part_readings_are_spelled.Goals as goal

pub returns : goal.returns
returns c = λ bs ps. (read-spells bs ps, spells-read bs ps)
