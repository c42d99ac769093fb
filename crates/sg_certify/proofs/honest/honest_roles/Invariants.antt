use Rattle.sg_certify.proofs.HonestSets.{AreHonestBelow}
use Rattle.sg_certify.proofs.honest.honest_roles.Given as goal

abbrev pub invariant-loop-role : goal.invariant-loop-role
invariant-loop-role g l = AreHonestBelow (g.H.Honest.names l.honest) l.cast l.role l.roles
