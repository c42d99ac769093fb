use Rattle.std.proofs.Common.{◌≡◌, drop}
use Rattle.sg_sched.specs.Text.{words}
use Rattle.sg_sched.proofs.text.without_spaces.Given as goal

abbrev pub invariant-bytes : goal.invariant-bytes
invariant-bytes l = words (drop l.at l.text) ≡ words l.text
