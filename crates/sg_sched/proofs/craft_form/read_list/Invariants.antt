use Rattle.std.proofs.Common.{◌≡◌, length}
use Rattle.sg_sched.specs.Format.CraftReading.{name_list}
use Rattle.sg_sched.proofs.RunLaws.{names_before}
use Rattle.sg_sched.proofs.craft_form.read_list.Given as goal

abbrev pub invariant-parts : goal.invariant-parts
invariant-parts l = name_list l.word ≡ names_before l.found (name_list l.left)

abbrev pub decreases-parts : goal.decreases-parts
decreases-parts l = length l.left
