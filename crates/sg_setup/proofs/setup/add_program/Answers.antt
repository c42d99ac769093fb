use Rattle.std.proofs.Common.{inl}
use Rattle.sg_model.specs.Limits.{most_program_file}
use Rattle.sg_ending.specs.Model.{ending_held}
use Rattle.sg_setup.specs.Setup.{RefusesProgram}
use Rattle.sg_setup.proofs.InOrder.{adds_held, refused}
use Rattle.sg_setup.proofs.setup.add_program.Goals as goal

pub returns-in-Err-clause-ends : goal.returns-in-Err-clause-ends
returns-in-Err-clause-ends g c = inl c.in-Err.ensures.unread

pub returns-in-Ok-clause-added : goal.returns-in-Ok-clause-added
returns-in-Ok-clause-added g c =
    adds_held c.put_program.result (g.F.Files.held c.args.files.now) c.args.file.now c.in-Ok.bytes.items c.as_slice.result.now c.args.programs.now c.put_program.new.programs
    c.as_slice.ensures.value c.in-Ok.ensures.found c.in-Ok.ensures.few c.put_program.ensures.added

pub returns-in-Ok-clause-ends : goal.returns-in-Ok-clause-ends
returns-in-Ok-clause-ends g c =
    refused c.put_program.result (g.F.Files.held c.args.files.now) most_program_file c.args.file.now c.as_slice.ensures.value c.in-Ok.ensures.found
    c.in-Ok.ensures.few ending_held (RefusesProgram c.args.programs.now) c.in-Ok.ensures.no_fault c.put_program.ensures.refused
