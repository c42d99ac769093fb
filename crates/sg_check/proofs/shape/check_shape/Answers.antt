use Rattle.sg_check.specs.declared.shape.ShapeFault.TheVariants.{Unreachable, IdleRole}
use Rattle.sg_check.proofs.Shapes.{refused_once, none_unreachable}
use Rattle.sg_check.proofs.shape.check_shape.Goals as goal

pub returns-in-Some-not_reached-clause-refused : goal.returns-in-Some-not_reached-clause-refused
returns-in-Some-not_reached-clause-refused c = refused_once c.args.graph.now (Unreachable c.in-Some-not_reached.node) (c.in_default.ensures, c.in-Some-not_reached.ensures)

pub returns-in-Some-idle_role-clause-refused : goal.returns-in-Some-idle_role-clause-refused
returns-in-Some-idle_role-clause-refused c =
    refused_once c.args.graph.now (IdleRole c.in-Some-idle_role.role)
    (c.in_default.ensures, none_unreachable c.args.graph.now c.in_default-not_reached.ensures, c.in-Some-idle_role.ensures)
