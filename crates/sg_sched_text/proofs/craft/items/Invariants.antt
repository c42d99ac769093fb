use Rattle.std.proofs.Common.{◌≡◌, ◌++◌, drop}
use Rattle.std.specs.Prelude.{option_map, option_copied}
use Rattle.sg_sched_text.specs.Crafting.{known_item}
use Rattle.sg_sched_text.specs.Numbers.{all_made}
use Rattle.sg_sched_text.proofs.craft.items.Given as goal

abbrev pub invariant-loop-line : goal.invariant-loop-line
invariant-loop-line l =
    all_made (known_item l.past (option_copied l.graph)) l.list ≡ option_map (λ is. l.found ++ is) (all_made (known_item l.past (option_copied l.graph)) (drop l.line-index l.list))
