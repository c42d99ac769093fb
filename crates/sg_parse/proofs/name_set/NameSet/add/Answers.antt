use Rattle.std.proofs.Common.{◌∙◌}
use Rattle.sg_parse.proofs.NewName.{insert_new}
use Rattle.sg_parse.proofs.name_set.NameSet.add.Goals as goal

pub returns-clause-ok : goal.returns-clause-ok
returns-clause-ok c = c.in_ok-insert.ensures.keys ∙ rw (← c.self.view_is) (insert_new c.self.inside.names.keys c.args.name (rw (c.self.view_is) c.requires))
