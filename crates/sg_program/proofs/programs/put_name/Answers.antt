use Rattle.std.proofs.Common.{sym, ◌∙◌}
use Rattle.sg_program.proofs.Tables.{on_ok, name_put, name_kept}
use Rattle.sg_program.proofs.programs.put_name.Goals as goal

pub returns-then-not-contains_key : goal.returns-then-not-contains_key
returns-then-not-contains_key c =
    let updated = on_ok c.insert.result _ c.insert.ensures.updates (c.insert.ensures.succeeds c.requires) in
    name_put c.args.name c.args.index c.args.names.now.entries c.insert.new.self.entries (sym c.contains_key.ensures ∙ c.if-not-contains_key.true) updated.0

pub returns-else-not-contains_key : goal.returns-else-not-contains_key
returns-else-not-contains_key c = name_kept c.args.name c.args.index c.args.names.now.entries (sym c.contains_key.ensures ∙ c.if-not-contains_key.false)
