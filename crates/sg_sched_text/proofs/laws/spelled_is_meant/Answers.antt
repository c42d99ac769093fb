-- What bytes spell is meant.
use Rattle.sg_sched_text.proofs.Meant.{spelled_is_meant}
use Rattle.sg_sched_text.proofs.laws.spelled_is_meant.Goals as goal

pub returns : goal.returns
returns c = spelled_is_meant
