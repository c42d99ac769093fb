use Rattle.std.proofs.Common.{◌≡◌, ◌+◌, drop, map}
use Rattle.std.specs.Option.{option_map_or}
use Rattle.sg_model.specs.Lists.{rises_from}
use Rattle.sg_audit.proofs.order.rises.Given as goal

abbrev pub invariant-loop-pair : goal.invariant-loop-pair
invariant-loop-pair g l = rises_from 0 (map (λ w. w.0) l.pairs) ≡ rises_from (option_map_or (λ x. x + 1) l.last 0) (map (λ w. w.0) (drop l.pair-index l.pairs))
