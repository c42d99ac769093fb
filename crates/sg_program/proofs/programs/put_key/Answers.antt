use Rattle.std.proofs.Common.{sym, ◌∙◌}
use Rattle.sg_program.proofs.Tables.{on_ok, key_put}
use Rattle.sg_program.proofs.programs.put_key.Goals as goal

pub returns-then-not-contains_key : goal.returns-then-not-contains_key
returns-then-not-contains_key c =
    let updated = on_ok c.insert.result _ c.insert.ensures.updates (c.insert.ensures.succeeds c.requires) in
    key_put c.args.key c.args.index c.args.digests.now.entries c.insert.new.self.entries (sym c.contains_key.ensures ∙ c.if-not-contains_key.true) updated.0
