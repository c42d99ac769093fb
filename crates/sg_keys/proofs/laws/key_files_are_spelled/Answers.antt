use Rattle.sg_keys.proofs.KeyFileLaws.{spells_from_read, read_from_spells}
use Rattle.sg_keys.proofs.laws.key_files_are_spelled.Goals as goal

pub returns : goal.returns
returns c = λ bs k. (spells_from_read bs k, read_from_spells bs k)
