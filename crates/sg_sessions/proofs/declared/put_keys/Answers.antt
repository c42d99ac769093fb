use Rattle.std.proofs.Common.{◌+◌, ◌≤◌, ◌++◌, ◌∷◌, [], ap, ◌∙◌, arith}
use Rattle.sg_sessions.proofs.Setups.{row_more}
use Rattle.sg_sessions.proofs.declared.put_keys.Goals as goal

pub loop-later-preserved : goal.loop-later-preserved
loop-later-preserved c = (
  let l : c.args.role + 1 ≤ c.loop-later.later = c.loop-later.invariant.0 in omega arith,
  c.in_ok-push.ensures.ok ∙ ap (λ k. c.loop-later.keys ++ k ∷ []) c.key_of.ensures ∙ row_more c.args.role (c.args.role + 1) c.loop-later.later c.args.keys.now c.loop-later.keys c.loop-later.invariant.0 c.loop-later.invariant.1,
)
