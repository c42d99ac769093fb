use Rattle.std.proofs.Common.{◌∙◌}
use Rattle.sg_ending.specs.Model.{ending_held}
use Rattle.sg_setup.specs.Setup.{AtKeys}
use Rattle.sg_setup.proofs.InOrder.{has_principal, lacks_program, names}
use Rattle.sg_setup.proofs.setup.read_principal.Goals as goal

pub returns-in-Err-clause-lacks : goal.returns-in-Err-clause-lacks
returns-in-Err-clause-lacks g c = AtKeys c.in-Err.ensures.ends

pub returns-in-Err-read_programs-clause-lacks : goal.returns-in-Err-read_programs-clause-lacks
returns-in-Err-read_programs-clause-lacks g c =
    lacks_program c.args.keys.now (names c.args.programs) (c.in-Ok.both).0 (g.F.Files.held c.args.files.now) (g.F.Files.held c.read_keys.new.files) c.read_keys.ensures.kept c.in-Ok.ensures.holds
    (g.F.Files.faults c.args.files.now) (g.F.Files.faults c.read_keys.new.files) (g.F.Files.faults c.read_programs.new.files) (ending_held c.in-Err-read_programs.ending)
    c.in-Ok.ensures.no_fault c.in-Err-read_programs.ensures.ends

pub returns-in-Ok-read_programs-clause-has : goal.returns-in-Ok-read_programs-clause-has
returns-in-Ok-read_programs-clause-has g c =
    has_principal c.args.keys.now (names c.args.programs) (c.in-Ok.both).0 (g.F.Files.held c.args.files.now) (g.F.Files.held c.read_keys.new.files) c.read_keys.ensures.kept c.in-Ok.ensures.holds
    c.in-Ok-read_programs.programs c.in-Ok-read_programs.ensures.hold

pub returns-in-Err-read_programs-clause-kept : goal.returns-in-Err-read_programs-clause-kept
returns-in-Err-read_programs-clause-kept g c = c.read_programs.ensures.kept ∙ c.read_keys.ensures.kept

pub returns-in-Ok-read_programs-clause-kept : goal.returns-in-Ok-read_programs-clause-kept
returns-in-Ok-read_programs-clause-kept g c = c.read_programs.ensures.kept ∙ c.read_keys.ensures.kept

pub returns-in-Ok-read_programs-clause-no_fault : goal.returns-in-Ok-read_programs-clause-no_fault
returns-in-Ok-read_programs-clause-no_fault g c = c.in-Ok-read_programs.ensures.no_fault ∙ c.in-Ok.ensures.no_fault
