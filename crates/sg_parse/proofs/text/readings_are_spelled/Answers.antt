use Rattle.sg_parse.proofs.TookGraph.{read-spells}
use Rattle.sg_parse.proofs.GivesGraph.{spells-read}
use Rattle.sg_parse.proofs.text.readings_are_spelled.Goals as goal

pub returns : goal.returns
returns c = λ bs g. (read-spells bs g, spells-read bs g)
