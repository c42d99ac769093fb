use Rattle.std.proofs.Common.{ap, ◌∙◌}
use Rattle.std.specs.List.{list_any}
use Rattle.sg_program.proofs.Tables.{same_pair_is}
use Rattle.sg_program.proofs.programs.has_part.Goals as goal

pub returns : goal.returns
returns c = c.contains.ensures ∙ ap (λ test. list_any test c.args.parts.now.keys) (same_pair_is c.args.name c.args.role)
