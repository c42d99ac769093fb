use Rattle.std.proofs.Common.{codes}
use Rattle.sg_protocol.specs.Graph.{node_name}
use Rattle.sg_check.specs.FaultText.{roles_text}
use Rattle.sg_base.proofs.Pieces.{third}
use Rattle.sg_check.proofs.blinding.put_blinded.Goals as goal

pub returns : goal.returns
returns c =
    third c.put_roles.result c.put_roles.new.out c.put_node.new.out c.bytes.new.self c.args.out.now
    (codes "blinding at ") (node_name c.args.graph.now c.args.node) (roles_text c.args.graph.now c.args.a c.args.b) c.in_ok-bytes.ensures.ok c.in_ok-put_node.ensures.ok c.put_roles.ensures
