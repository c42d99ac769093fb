use Rattle.std.proofs.Common.{arith, ap, length}
use Rattle.std.proofs.lemmas.List.{length-map}
use Rattle.std.specs.Option.{option_copied}
use Rattle.sg_serve.proofs.graphs.Graphs.len.Goals as goal

pub returns : goal.returns
returns c = omega (arith, ap length c.self.view_is, length-map c.self.inside.list.items option_copied)
