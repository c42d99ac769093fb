use Rattle.std.proofs.Common.{◌∙◌}
use Rattle.indexmap.proofs.CallerLemmas.{insert_entry-new}
use Rattle.sg_text.proofs.SameSid.{same}
use Rattle.sg_certify.proofs.BySid.{found_none}
use Rattle.sg_certify.proofs.traces.put_last.Goals as goal

pub returns-clause-ok : goal.returns-clause-ok
returns-clause-ok c = c.in_ok-insert.ensures.entries ∙ insert_entry-new same c.args.table.now c.args.sid c.args.trace (found_none c.args.sid c.args.table.now.entries c.requires)
