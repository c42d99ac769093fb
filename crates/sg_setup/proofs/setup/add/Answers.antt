use Rattle.std.proofs.Common.{ap, ◌∙◌, Err}
use Rattle.std.specs.List.{list_any}
use Rattle.sg_program.specs.Together.{clashes}
use Rattle.sg_program.specs.declared.programs.AddProgramFault.{AddProgramFault}
use Rattle.sg_setup.proofs.Beside.{alone, clash}
use Rattle.sg_setup.proofs.setup.add.Goals as goal

pub returns-in-Ok-clause-added : goal.returns-in-Ok-clause-added
returns-in-Ok-clause-added c = record {
  program = c.args.program;
  such = c.requires;
  alone = alone c.add.result c.args.program (list_any (clashes c.args.program) c.args.programs.now) c.add.ensures.twice c.in-Ok.is;
  is = c.in-Ok.ensures.added;
}

pub returns-in-Err-default-Twice-clause-refused : goal.returns-in-Err-default-Twice-clause-refused
returns-in-Err-default-Twice-clause-refused c = (
  c.next_number-number.ensures,
  (c.args.program, c.requires, clash c.add.result c.args.program c.in-Err-default-Twice.back (list_any (clashes c.args.program) c.args.programs.now) c.add.ensures.twice c.add.ensures.back (c.in-Err-default-Twice.is ∙ ap (λ (f : AddProgramFault). Err (c.in-Err-default-Twice.back, f)) c.in-Err-default-Twice.field-0-1-is)),
)
