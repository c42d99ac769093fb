use Rattle.std.proofs.Common.{◌≡◌, ◌++◌, [], drop}
use Rattle.sg_views.specs.Steps.{items_after}
use Rattle.sg_views.proofs.step.items_after.Given as goal

abbrev pub invariant-loop-item : goal.invariant-loop-item
invariant-loop-item l = items_after l.graph l.label [] l.items ≡ l.next.items ++ items_after l.graph l.label l.carried (drop l.item-index l.items)
