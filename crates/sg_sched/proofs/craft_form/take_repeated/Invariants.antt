use Rattle.std.proofs.Common.{◌≡◌}
use Rattle.sg_sched.specs.Format.CraftReading.{repeated}
use Rattle.sg_sched.proofs.RunLaws.{found_before}
use Rattle.sg_sched.proofs.craft_form.take_repeated.Given as goal

abbrev pub invariant-words : goal.invariant-words
invariant-words g l = repeated l.first g.T.AfterWord.taker l.most l.fn.words ≡ found_before l.found (repeated l.first g.T.AfterWord.taker l.left l.words)

abbrev pub decreases-words : goal.decreases-words
decreases-words g l = l.left
