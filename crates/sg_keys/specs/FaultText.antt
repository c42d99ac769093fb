-- The text for bytes that are no key file.
use Rattle.std.specs.Prelude.{ℕ, List, ◌++◌, codes}
use Rattle.std.specs.Fmt.{decimal}
use Rattle.sg_keys.specs.declared.key_file.KeyFault.{KeyFault}
use Rattle.sg_keys.specs.declared.key_file.KeyFault.TheVariants.{NotToml, BadEntry, Twice, OutOfMemory}

-- the first fault of a key file
abbrev pub keys_text : KeyFault → List ℕ
keys_text NotToml = codes "not toml"
keys_text (BadEntry n) = codes "entry " ++ decimal n
keys_text (Twice n) = codes "twice " ++ decimal n
keys_text OutOfMemory = codes "out of memory"
