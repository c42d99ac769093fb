use Rattle.std.proofs.Common.{◌<◌, length, sym, ap, subst}
use Rattle.sg_protocol.specs.Frame.{Item}
use Rattle.sg_protocol.specs.Graph.{Graph}
use Rattle.sg_role.proofs.Spelled.{last_all}
use Rattle.sg_role.proofs.next.ended.Goals as goal

pub edge-requires : goal.edge-requires
edge-requires c =
    let g = c.args.kept.now.program.now.graph in
    subst (λ (h : Graph). c.item.inside.label < length h.edges) (sym c.graph.ensures.graph)
    (subst (λ n. n < length g.edges) (sym (ap (λ (i : Item). i.label) c.item.view_is)) (last_all (λ (i : Item). i.label < length g.edges) c.args.items.now c.in-Some.item.now c.requires c.in-Some.ensures))
