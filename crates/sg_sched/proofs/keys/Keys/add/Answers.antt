use Rattle.std.proofs.Common.{◌∙◌, ap, sym, map}
use Rattle.indexmap.specs.IndexSet.{insert_key}
use Rattle.sg_sched.proofs.SameBoth.{same_both, both_of, both_new}
use Rattle.sg_sched.proofs.keys.Keys.add.Goals as goal

pub invariant_of-self-in_default : goal.invariant_of-self-in_default
invariant_of-self-in_default c =
    c.in_default.ensures.keys
    ∙ (λ i. insert_key same_both (c.self.invariant i) (both_of (c.key.view_is i)))
    ∙ both_new c.self.inside.list c.args.key (rw c.self.view_is c.requires)
    ∙ ap (map both_of) (sym c.in_ok-push.ensures.ok)
