use Rattle.std.proofs.Common.{◌≡◌, ◌≤◌, None, drop, length}
use Rattle.sg_sched.specs.Format.CraftReading.{split_last}
use Rattle.sg_sched.proofs.craft_form.split_last.Given as goal

abbrev pub invariant-bytes : goal.invariant-bytes
invariant-bytes l = (split_last l.mark (drop l.at l.word) ≡ None) × (l.at ≤ length l.word)

abbrev pub decreases-bytes : goal.decreases-bytes
decreases-bytes l = l.at
