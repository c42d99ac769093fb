use Rattle.sg_protocol.specs.Graph.{canonical}
use Rattle.sg_parse.proofs.Canonical.{canonical-spells}
use Rattle.sg_parse.proofs.GivesGraph.{spells-read}
use Rattle.sg_parse.proofs.text.canonical_texts_are_read.Goals as goal

pub returns-clause-spelled : goal.returns-clause-spelled
returns-clause-spelled c = canonical-spells

pub returns-clause-read : goal.returns-clause-read
returns-clause-read c = λ g is two one. spells-read (canonical g) g (canonical-spells g is two one)
