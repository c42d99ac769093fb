use Rattle.sg_joins.proofs.Reading.{frames_show}
use Rattle.sg_joins.proofs.laws.frames_show_their_joins.Goals as goal

pub returns : goal.returns
returns c = frames_show
