use Rattle.std.proofs.Common.{◌∙◌, ap, map, position}
use Rattle.std.specs.Prelude.{bytes_eq}
use Rattle.sg_parse.proofs.Indices.{first_index, index_is_there}
use Rattle.sg_parse.proofs.named_list.NamedList.index.Goals as goal

pub returns-clause-found : goal.returns-clause-found
returns-clause-found g c =
    rw (← c.self.view_is) (index_is_there c.args.name.now (map g.T.Named.named c.self.inside.items) c.index.result (c.index.ensures.index ∙ ap (λ ns. position (bytes_eq c.args.name.now) ns) c.self.invariant))

pub returns-clause-index : goal.returns-clause-index
returns-clause-index g c =
    rw (← c.self.view_is) (first_index c.args.name.now (map g.T.Named.named c.self.inside.items) c.index.result (c.index.ensures.index ∙ ap (λ ns. position (bytes_eq c.args.name.now) ns) c.self.invariant))
