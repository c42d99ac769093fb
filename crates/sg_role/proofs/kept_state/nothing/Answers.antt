use Rattle.std.proofs.Common.{None, [], ◌∷◌, ◌++◌, sym, ap, ◌∙◌}
use Rattle.sg_role.proofs.Lists.{const_more}
use Rattle.sg_role.proofs.kept_state.nothing.Goals as goal

pub loop-preserved : goal.loop-preserved
loop-preserved g c = c.in_ok-push.ensures.items ∙ ap (λ l. l ++ None ∷ []) c.loop.invariant ∙ sym (const_more None c.loop.counter)
