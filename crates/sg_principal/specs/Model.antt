-- What the program holds, as the values of the definitions.
use Rattle.std.specs.Prelude.{map}
use Rattle.std.specs.Option.{option_map}
use Rattle.sg_setup.specs.Setup as Read
use Rattle.sg_setup.specs.declared.setup.Principal.{Principal}
use Rattle.sg_setup.specs.declared.setup.Setup.{Setup}
use Rattle.sg_principal.specs.Serves as Served
use Rattle.sg_principal.specs.declared.named.NamedFiles.{NamedFiles}
use Rattle.sg_principal.specs.declared.named.RunFiles.{RunFiles}

-- the files that a run names
abbrev pub run_files_held : RunFiles → Read.RunFiles
run_files_held n = record { keys = (n.keys).now; programs = map (λ p. p.now) (n.programs).now; script = (n.script).now }

-- those that a run for an application names
abbrev pub named_files_held : NamedFiles → Served.NamedFiles
named_files_held n = record { keys = (n.keys).now; programs = map (λ p. p.now) (n.programs).now; ledger = option_map (λ f. f.now) n.ledger }

-- the keys and the programs of a principal
abbrev pub principal_held : Principal → Read.Principal
principal_held p = record { keys = p.keys; programs = p.programs }

-- what a run plays by
abbrev pub setup_held : Setup → Read.Setup
setup_held s = record { keys = s.keys; programs = s.programs; script = s.script }
