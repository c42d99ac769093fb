use Rattle.std.proofs.Common.{◌∙◌, ap}
use Rattle.std.specs.List.{list_any}
use Rattle.sg_base.proofs.SameName.{same_is}
use Rattle.sg_parse.proofs.name_set.NameSet.has.Goals as goal

pub returns : goal.returns
returns c = rw (← c.self.view_is) (c.contains.ensures ∙ ap (λ test. list_any test c.self.inside.names.keys) (same_is c.args.name.now))
