use Rattle.std.proofs.Common.{◌≡◌, drop}
use Rattle.std.specs.Prelude.{bytes_eq}
use Rattle.std.specs.List.{position_from}
use Rattle.sg_graph.proofs.graph.finding.index_of.Given as goal

abbrev pub invariant-loop-at : goal.invariant-loop-at
invariant-loop-at g l =
    position_from (λ part. bytes_eq l.name (g.T.Named.named part)) 0 l.parts ≡ position_from (λ part. bytes_eq l.name (g.T.Named.named part)) l.at (drop l.at l.parts)
