use Rattle.std.proofs.Common.{◌++◌, ap, sym, ◌∙◌}
use Rattle.sg_sessions.specs.Setup.{keys_with_later}
use Rattle.sg_sessions.proofs.Setups.{keys_more}
use Rattle.sg_sessions.proofs.declared.keys_for.Goals as goal

pub loop-role-preserved : goal.loop-role-preserved
loop-role-preserved c = c.in_ok-put_keys.ensures ∙ ap (λ z. z ++ keys_with_later c.args.roles c.loop-role.role) c.loop-role.invariant ∙ sym (keys_more c.args.roles c.loop-role.role)
