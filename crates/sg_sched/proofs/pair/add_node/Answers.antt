use Rattle.std.proofs.Common.{◌≡◌, ◌<◌, ◌∙◌, ap, false, length, rules, arith}
use Rattle.sg_model.specs.Lists.{has_text}
use Rattle.sg_graph.specs.Parts.{node_names}
use Rattle.sg_sched.proofs.PairLaws.{name_new, names_there}
use Rattle.sg_sched.proofs.pair.add_node.Goals as goal

pub want-requires : goal.want-requires
want-requires c =
    let g = c.args.graph.now in
    let fresh : has_text c.node_name.result (node_names g) ≡ false =
    ap (λ t. has_text t (node_names g)) c.node_name.ensures.name ∙ name_new g c.args.number (omega arith) c.requires.nodes in
    let room : length (node_names g) < 256 = omega (arith, names_there g c.args.number c.requires.nodes) in
    search (rules, fresh, room)
