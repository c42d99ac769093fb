use Rattle.std.proofs.Common.{◌∙◌, ap, position}
use Rattle.sg_base.proofs.SameName.{same_is}
use Rattle.sg_parse.proofs.name_set.NameSet.index.Goals as goal

pub returns-clause-index : goal.returns-clause-index
returns-clause-index c = rw (← c.self.view_is) (c.get_index_of.ensures.index ∙ ap (λ test. position test c.self.inside.names.keys) (same_is c.args.name.now))
