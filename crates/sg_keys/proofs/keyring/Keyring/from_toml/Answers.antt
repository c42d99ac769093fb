use Rattle.sg_keys.specs.KeyFile.{key_file}
use Rattle.sg_keys.proofs.KeyFileLaws.{answered, read_from_spells, spelled}
use Rattle.sg_keys.proofs.keyring.Keyring.from_toml.Goals as goal

pub returns-clause-spelled : goal.returns-clause-spelled
returns-clause-spelled c = spelled c.args.bytes.now c.read_keys.result c.read_keys.ensures.answer

pub returns-clause-each : goal.returns-clause-each
returns-clause-each c =
    λ keys s. answered c.read_keys.result (key_file c.args.bytes.now) keys c.read_keys.ensures.answer c.read_keys.ensures.fault (read_from_spells c.args.bytes.now keys s)
