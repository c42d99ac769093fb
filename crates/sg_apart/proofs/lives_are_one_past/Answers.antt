-- All lives of a principal are one past.
use Rattle.sg_apart.proofs.Lives.{lives_are_one_past}
use Rattle.sg_apart.proofs.lives_are_one_past.Goals as goal

pub returns : goal.returns
returns c = lives_are_one_past
