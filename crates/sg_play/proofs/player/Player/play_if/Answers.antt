use Rattle.sg_play.proofs.Keeping.{keeps_same}
use Rattle.sg_play.proofs.Counting.{none_kept}
use Rattle.std.proofs.Common.{refl}
use Rattle.sg_play.proofs.player.Player.play_if.Goals as goal

pub returns-in-Some-clause-progress : goal.returns-in-Some-clause-progress
returns-in-Some-clause-progress g c = λ p start s w h. rw c.in-Some.is (c.play_turn.ensures.progress p start s w h)

pub returns-in-None-clause-progress : goal.returns-in-None-clause-progress
returns-in-None-clause-progress g c = λ p start s w h. rw c.in-None.is ((s, h), w)

pub returns-in-None-clause-joins : goal.returns-in-None-clause-joins
returns-in-None-clause-joins g c = keeps_same c.args.self.now.node c.args.self.now.node refl

pub returns-in-None-clause-kept : goal.returns-in-None-clause-kept
returns-in-None-clause-kept g c = none_kept _
