use Rattle.std.proofs.Common.{◌∙◌}
use Rattle.indexmap.proofs.CallerLemmas.{insert_entry-new}
use Rattle.sg_text.proofs.SameSid.{same, lookup-absent}
use Rattle.sg_text.proofs.names.put_last.Goals as goal

pub returns-clause-ok : goal.returns-clause-ok
returns-clause-ok c = c.in_ok-insert.ensures.entries ∙ insert_entry-new same c.args.names.now c.args.sid c.args.name (lookup-absent c.args.sid c.args.names.now.entries c.requires)
