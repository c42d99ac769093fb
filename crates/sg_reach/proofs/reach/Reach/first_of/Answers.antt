use Rattle.std.proofs.Common.{◌≡◌, ◌<◌, length, ap, subst, arith}
use Rattle.sg_protocol.specs.Graph.{Graph, IsGraph}
use Rattle.sg_reach.specs.Reaches.{Closure}
use Rattle.sg_reach.proofs.There.{end_there}
use Rattle.sg_reach.proofs.reach.Reach.first_of.Goals as goal

pub returns : goal.returns
returns c = λ n role within.
    let k = c.args.self.now in
    let same : c.self.inside.graph.now ≡ k.graph = ap (λ (k : Closure). k.graph) c.self.view_is in
    let whole : IsGraph k.graph = subst IsGraph same c.self.invariant.graph in
    let from : k.from < length k.graph.nodes = subst (λ (k : Closure). k.from < length k.graph.nodes) c.self.view_is c.self.invariant.there in
    let end : n < length k.graph.nodes = subst (λ i. i < length k.graph.nodes) within.1.ends (end_there k.graph whole k.from within.0 from within.1.walk) in
    let many : length c.self.inside.graph.now.nodes ≡ length k.graph.nodes = ap (λ (g : Graph). length g.nodes) same in
    c.loop-number.invariant n (omega (arith, end, many)) role within
