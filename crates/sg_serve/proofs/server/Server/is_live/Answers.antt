use Rattle.std.proofs.Common.{◌∙◌}
use Rattle.sg_protocol.specs.Named.{live_with}
use Rattle.sg_protocol.specs.Past.{node_of}
use Rattle.sg_serve.proofs.Saying.{some_same}
use Rattle.sg_serve.proofs.server.Server.is_live.Goals as goal

pub returns : goal.returns
returns c = λ p s. c.is_some.ensures ∙ some_same c.graph_of.result (live_with (node_of p.past) c.args.sid.now) _ (c.graph_of.ensures p s)
