use Rattle.std.proofs.Common.{◌∙◌}
use Rattle.sg_program.proofs.Tables.{on_ok, pair_put}
use Rattle.sg_program.proofs.programs.put_part.Goals as goal

pub returns : goal.returns
returns c =
    on_ok c.insert.result _ c.insert.ensures.keys (c.insert.ensures.succeeds c.requires.room) ∙ pair_put c.args.parts.now.keys c.args.name c.args.role c.requires.absent
