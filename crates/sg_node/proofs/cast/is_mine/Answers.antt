use Rattle.std.proofs.Common.{rules, [], sym, refl}
use Rattle.sg_role.proofs.Lists.{got, not_got}
use Rattle.sg_node.proofs.cast.is_mine.Goals as goal

pub returns-in-Some : goal.returns-in-Some
returns-in-Some c =
    let g = got c.args.cast.now.names c.args.role [] c.in-Some.name (sym c.in-Some.ensures) in
    rw (g.1, g.0) (search rules)

pub returns-in-None : goal.returns-in-None
returns-in-None c = rw (not_got c.args.cast.now.names c.args.role (sym c.in-None.ensures)) refl
