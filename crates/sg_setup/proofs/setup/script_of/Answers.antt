use Rattle.std.proofs.Common.{inl}
use Rattle.sg_model.specs.Limits.{most_script_file}
use Rattle.sg_script.specs.Format.{SpellsScript}
use Rattle.sg_ending.specs.Model.{ending_held}
use Rattle.sg_setup.specs.Setup.{RefusesScript}
use Rattle.sg_setup.proofs.InOrder.{found, refused}
use Rattle.sg_setup.proofs.setup.script_of.Goals as goal

pub returns-in-Err-clause-ends : goal.returns-in-Err-clause-ends
returns-in-Err-clause-ends g c = inl c.in-Err.ensures.unread

pub returns-in-Ok-clause-holds : goal.returns-in-Ok-clause-holds
returns-in-Ok-clause-holds g c =
    found c.script_in.result (g.F.Files.held c.args.files.now) most_script_file c.args.file.now c.as_slice.ensures.value c.in-Ok.ensures.found
    c.in-Ok.ensures.few (λ s b. SpellsScript c.args.programs.now b s) c.script_in.ensures.spelled

pub returns-in-Ok-clause-ends : goal.returns-in-Ok-clause-ends
returns-in-Ok-clause-ends g c =
    refused c.script_in.result (g.F.Files.held c.args.files.now) most_script_file c.args.file.now c.as_slice.ensures.value c.in-Ok.ensures.found
    c.in-Ok.ensures.few ending_held (RefusesScript c.args.programs.now) c.in-Ok.ensures.no_fault c.script_in.ensures.refused
