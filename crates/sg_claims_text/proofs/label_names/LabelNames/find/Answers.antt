use Rattle.std.specs.Prelude.{Some, None}
use Rattle.sg_parse.proofs.Indices.{first_index, index_is_there}
use Rattle.sg_claims_text.proofs.label_names.LabelNames.find.Goals as goal

pub returns-in-Some-clause-found : goal.returns-in-Some-clause-found
returns-in-Some-clause-found c = rw (← c.self.view_is) (index_is_there c.args.name.now c.self.inside.names (Some c.in-Some.index) c.in-Some.ensures.index)

pub returns-in-Some-clause-index : goal.returns-in-Some-clause-index
returns-in-Some-clause-index c = rw (← c.self.view_is) (first_index c.args.name.now c.self.inside.names (Some c.in-Some.index) c.in-Some.ensures.index)

pub returns-in-None-clause-found : goal.returns-in-None-clause-found
returns-in-None-clause-found c = rw (← c.self.view_is) (index_is_there c.args.name.now c.self.inside.names None c.in-None.ensures.index)
