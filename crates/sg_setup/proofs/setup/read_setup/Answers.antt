use Rattle.std.proofs.Common.{Bor, List, ℕ, ◌∙◌}
use Rattle.sg_ending.specs.Model.{ending_held}
use Rattle.sg_setup.specs.Setup.{RunFiles, AtPrincipal}
use Rattle.sg_setup.proofs.InOrder.{has_setup, lacks_script, names}
use Rattle.sg_setup.proofs.setup.read_setup.Goals as goal

abbrev named : Bor (List ℕ) → Bor (List ℕ) → Bor (List (Bor (List ℕ))) → RunFiles
named keys script programs = record { keys = keys.now; programs = names programs; script = script.now }

pub returns-in-Err-clause-lacks : goal.returns-in-Err-clause-lacks
returns-in-Err-clause-lacks g c = AtPrincipal c.in-Err.ensures.lacks

pub returns-in-Err-script_of-clause-lacks : goal.returns-in-Err-script_of-clause-lacks
returns-in-Err-script_of-clause-lacks g c =
    lacks_script (named c.args.keys c.args.script c.args.programs) (record { keys = c.in-Ok.principal.keys; programs = c.in-Ok.principal.programs })
    (g.F.Files.held c.args.files.now) (g.F.Files.held c.read_principal.new.files) c.read_principal.ensures.kept c.in-Ok.ensures.has
    (g.F.Files.faults c.args.files.now) (g.F.Files.faults c.read_principal.new.files) (g.F.Files.faults c.script_of.new.files) (ending_held c.in-Err-script_of.ending)
    c.in-Ok.ensures.no_fault c.in-Err-script_of.ensures.ends

pub returns-in-Ok-script_of-clause-has : goal.returns-in-Ok-script_of-clause-has
returns-in-Ok-script_of-clause-has g c =
    rw c.with_script.ensures
    (has_setup (named c.args.keys c.args.script c.args.programs) (record { keys = c.in-Ok.principal.keys; programs = c.in-Ok.principal.programs })
    (g.F.Files.held c.args.files.now) (g.F.Files.held c.read_principal.new.files) c.read_principal.ensures.kept c.in-Ok.ensures.has
    c.in-Ok-script_of.script c.in-Ok-script_of.ensures.holds)

pub returns-in-Ok-script_of-clause-no_fault : goal.returns-in-Ok-script_of-clause-no_fault
returns-in-Ok-script_of-clause-no_fault g c = c.in-Ok-script_of.ensures.no_fault ∙ c.in-Ok.ensures.no_fault
