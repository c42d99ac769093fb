use Rattle.std.proofs.Common.{◌≡◌, length}
use Rattle.sg_sched.specs.Format.CraftReading.{run}
use Rattle.sg_sched.proofs.RunLaws.{run_after}
use Rattle.sg_sched.proofs.craft_form.take_run.Given as goal

abbrev pub invariant-words : goal.invariant-words
invariant-words l = run l.fn.words ≡ run_after l.found (run l.words)

abbrev pub decreases-words : goal.decreases-words
decreases-words l = length l.words
