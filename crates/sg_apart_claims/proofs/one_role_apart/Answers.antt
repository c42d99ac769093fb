-- One cast and one role.
use Rattle.sg_apart_claims.specs.Laws.{SessionsHaveOneCast, NoneTakesTwoRoles}
use Rattle.sg_apart_claims.proofs.Pasts.{of_pasts}
use Rattle.sg_apart_claims.proofs.Roles.{sessions_have_one_cast, none_takes_two_roles}
use Rattle.sg_apart_claims.proofs.one_role_apart.Goals as goal

pub returns : goal.returns
returns c = record {
  one_cast = λ sha hash. of_pasts sha (SessionsHaveOneCast sha) (sessions_have_one_cast sha hash);
  one_role = λ sha hash. of_pasts sha (NoneTakesTwoRoles sha) (none_takes_two_roles sha hash);
}
