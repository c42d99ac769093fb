use Rattle.sg_play.specs.Queues.{HoldsChoices}
use Rattle.sg_play.proofs.choices.Choices.new.Given as goal

abbrev pub invariant-loop-choice : goal.invariant-loop-choice
invariant-loop-choice l = HoldsChoices l.choices l.yielded
