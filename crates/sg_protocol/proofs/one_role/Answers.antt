-- One cast and one role.
use Rattle.sg_protocol.proofs.Roles.{sessions_have_one_cast, none_takes_two_roles}
use Rattle.sg_protocol.proofs.one_role.Goals as goal

pub returns : goal.returns
returns c = record { one_cast = sessions_have_one_cast; one_role = none_takes_two_roles }
