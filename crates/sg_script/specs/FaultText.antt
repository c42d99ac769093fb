-- The text for bytes that are no script.
use Rattle.std.specs.Prelude.{ℕ, List, ◌++◌, codes}
use Rattle.std.specs.Fmt.{decimal}
use Rattle.sg_script.specs.declared.fault.ScriptFault.{ScriptFault}
use Rattle.sg_script.specs.declared.fault.ScriptFault.TheVariants.{NotToml, BadStart, BadChoice, OutOfMemory}

-- the first fault of a script
abbrev pub script_text : ScriptFault → List ℕ
script_text NotToml = codes "not toml"
script_text (BadStart n) = codes "start " ++ decimal n
script_text (BadChoice n) = codes "choice " ++ decimal n
script_text OutOfMemory = codes "out of memory"
