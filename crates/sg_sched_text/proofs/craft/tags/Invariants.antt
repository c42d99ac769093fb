use Rattle.std.proofs.Common.{◌≡◌, ◌++◌, drop, map}
use Rattle.std.specs.Prelude.{option_map, option_copied}
use Rattle.sg_sched.specs.Format.Crafts.{tag_of}
use Rattle.sg_sched_text.specs.Crafting.{known_tag}
use Rattle.sg_sched_text.specs.Numbers.{all_made}
use Rattle.sg_sched_text.proofs.craft.tags.Given as goal

abbrev pub invariant-loop-line : goal.invariant-loop-line
invariant-loop-line l =
    all_made (known_tag l.past (option_copied l.graph)) l.list ≡ option_map (λ ts. map tag_of l.found ++ ts) (all_made (known_tag l.past (option_copied l.graph)) (drop l.line-index l.list))
