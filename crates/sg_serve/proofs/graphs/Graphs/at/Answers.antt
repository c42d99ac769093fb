use Rattle.std.proofs.Common.{◌∙◌, ap, map}
use Rattle.std.specs.Option.{option_copied}
use Rattle.sg_serve.proofs.Saying.{graph_none, graph_some}
use Rattle.sg_serve.proofs.graphs.Graphs.at.Goals as goal

pub returns-in-Some : goal.returns-in-Some
returns-in-Some c = graph_some c.deref.result.now c.args.self.now c.args.index c.in-Some.graph.now (ap (map option_copied) c.deref.ensures.value ∙ c.self.view_is) c.in-Some.ensures.lookup.3.0 c.in-Some.ensures.lookup.1

pub returns-in-None : goal.returns-in-None
returns-in-None c = graph_none c.deref.result.now c.args.self.now c.args.index (ap (map option_copied) c.deref.ensures.value ∙ c.self.view_is) c.in-None.ensures.lookup.3
