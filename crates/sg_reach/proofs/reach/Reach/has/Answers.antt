use Rattle.std.proofs.Common.{length, arith, ◌≡◌, ◌<◌, sym, ap, ◌∙◌, subst}
use Rattle.std.specs.Prelude.{None, IsTrue, is_some}
use Rattle.std.proofs.lemmas.List.{get_or_default}
use Rattle.sg_protocol.specs.Graph.{shape}
use Rattle.sg_reach.specs.WalkEnd.{found_at}
use Rattle.sg_reach.specs.Reaches.{Closure, IsWithin}
use Rattle.sg_reach.proofs.Reached.{is_reached, found_at_end}
use Rattle.sg_reach.proofs.reach.Reach.has.Goals as goal

pub returns : goal.returns
returns c =
    let s = c.self.inside.search in
    let g = shape c.self.inside.graph.now in
    let same_graph : c.self.inside.graph.now ≡ c.args.self.now.graph = ap (λ (k : Closure). k.graph) c.self.view_is in
    let there : c.args.node < length c.self.inside.graph.now.nodes = rw same_graph c.requires in
    let within : c.node.inside.0 < length s.found = omega (arith, there, c.self.invariant.graph.sizes.2, c.self.invariant.search.found.sizes.0, c.node.view_is) in
    let found : c.is_some.result ≡ is_some (found_at s.found c.args.node) =
    c.is_some.ensures ∙ ap is_some (get_or_default s.found c.node.inside.0 c.index-found-node.result None within ∙ ap (found_at s.found) c.node.view_is) in
    subst (λ (k : Closure). (IsTrue c.is_some.result → IsWithin k c.args.node) × (IsWithin k c.args.node → IsTrue c.is_some.result)) c.self.view_is (
      (λ h. is_reached g (λ _. ⊥) s c.args.node c.self.invariant.search (sym found ∙ h)),
      (λ w. found ∙ found_at_end g s s.from c.args.node w.0 c.self.invariant.search c.self.invariant.followed c.self.invariant.search.found.begun w.1),
    )
