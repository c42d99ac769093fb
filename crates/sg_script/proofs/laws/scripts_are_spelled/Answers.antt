use Rattle.sg_script.proofs.ScriptLaws.{spells_from_read, read_from_spells}
use Rattle.sg_script.proofs.laws.scripts_are_spelled.Goals as goal

pub returns : goal.returns
returns c = λ programs bs s. (spells_from_read programs bs s, read_from_spells programs bs s)
