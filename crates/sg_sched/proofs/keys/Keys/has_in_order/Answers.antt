use Rattle.std.proofs.Common.{◌∙◌, ap}
use Rattle.std.specs.List.{list_any}
use Rattle.sg_sched.proofs.SameBoth.{same_both, any_both}
use Rattle.sg_sched.proofs.keys.Keys.has_in_order.Goals as goal

pub returns : goal.returns
returns c =
    rw (← c.self.view_is) (c.contains.ensures
    ∙ ap (list_any (same_both (record { one = c.args.one.now; two = c.args.two.now }))) c.self.invariant
    ∙ any_both c.args.one.now c.args.two.now c.self.inside.list)
