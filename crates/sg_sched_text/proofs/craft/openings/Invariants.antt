use Rattle.std.proofs.Common.{◌≡◌, ◌++◌, drop}
use Rattle.std.specs.Prelude.{option_map, option_copied}
use Rattle.sg_sched_text.specs.Crafting.{known_opening}
use Rattle.sg_sched_text.specs.Numbers.{all_made}
use Rattle.sg_sched_text.proofs.craft.openings.Given as goal

abbrev pub invariant-loop-committed : goal.invariant-loop-committed
invariant-loop-committed l =
    all_made (known_opening (option_copied l.graph)) l.list ≡ option_map (λ os. l.found ++ os) (all_made (known_opening (option_copied l.graph)) (drop l.committed-index l.list))
