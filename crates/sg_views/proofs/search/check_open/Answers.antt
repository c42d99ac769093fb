use Rattle.std.proofs.Common.{◌≡◌, length, subst, sym, arith}
use Rattle.sg_views.specs.Limits.{ManyOpen}
use Rattle.sg_views.specs.Search.{open_states}
use Rattle.sg_views.proofs.Reached.{many_open}
use Rattle.sg_views.proofs.search.check_open.Goals as goal

pub returns-in-Ok-clause-refused : goal.returns-in-Ok-clause-refused
returns-in-Ok-clause-refused c = λ g r s l.
    (let many : length (open_states c.args.states.now) ≡ 65537 = omega (arith, c.open.ensures, c.if-open-le-MOST_OPEN.false, l) in
    subst (ManyOpen g r) (sym c.in-Ok.ensures) (many_open g r c.args.states.now s many))
