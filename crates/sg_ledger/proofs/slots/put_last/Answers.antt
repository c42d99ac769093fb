use Rattle.std.proofs.Common.{◌∙◌}
use Rattle.sg_cache.proofs.SameJoin.{insert_new}
use Rattle.sg_ledger.proofs.slots.put_last.Goals as goal

pub returns-clause-ok : goal.returns-clause-ok
returns-clause-ok c = c.in_ok-insert.ensures.keys ∙ insert_new c.args.joins.now.keys c.args.join c.requires
