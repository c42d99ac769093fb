use Rattle.std.proofs.Common.{◌≡◌, drop}
use Rattle.sg_model.specs.Lists.{value_at}
use Rattle.sg_sched_text.specs.Numbers.{numbered}
use Rattle.sg_sched_text.proofs.values.index_of.Given as goal

abbrev pub invariant-loop-at : goal.invariant-loop-at
invariant-loop-at l = value_at (numbered l.numbers l.values) l.number ≡ value_at (numbered (drop l.at l.numbers) (drop l.at l.values)) l.number
