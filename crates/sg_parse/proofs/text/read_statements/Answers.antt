use Rattle.std.proofs.Common.{length, refl, ◌∙◌, arith}
use Rattle.sg_parse.proofs.Room.{roles_keep, variables_keep, nodes_keep}
use Rattle.sg_parse.proofs.text.read_statements.Goals as goal

pub read_up_to-requires : goal.read_up_to-requires
read_up_to-requires c =
    let none = roles_keep (λ g. length g.variables) (λ g n. refl) c.args.graph.now c.args.scanner.now _ c.in_ok-read_roles.ensures.reads ∙ c.requires.variables in
    omega (arith, none)

pub read_nodes-requires : goal.read_nodes-requires
read_nodes-requires c =
    variables_keep (λ g. length g.nodes) (λ g v. refl) c.read_roles.new.graph c.read_roles.new.scanner _ c.in_ok-read_up_to.ensures
    ∙ roles_keep (λ g. length g.nodes) (λ g n. refl) c.args.graph.now c.args.scanner.now _ c.in_ok-read_roles.ensures.reads ∙ c.requires.nodes

pub read_up_to-requires-2 : goal.read_up_to-requires-2
read_up_to-requires-2 c =
    let none =
    nodes_keep (λ g. length g.edges) (λ g n. refl) c.read_up_to.new.graph c.read_up_to.new.scanner _ c.in_ok-read_nodes.ensures
    ∙ variables_keep (λ g. length g.edges) (λ g v. refl) c.read_roles.new.graph c.read_roles.new.scanner _ c.in_ok-read_up_to.ensures
    ∙ roles_keep (λ g. length g.edges) (λ g n. refl) c.args.graph.now c.args.scanner.now _ c.in_ok-read_roles.ensures.reads ∙ c.requires.edges in
    omega (arith, none)
