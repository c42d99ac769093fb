use Rattle.std.proofs.Common.{◌≡◌, ◌-◌, false, drop, length}
use Rattle.std.specs.List.{list_any}
use Rattle.sg_model.specs.Lists.{is_in}
use Rattle.sg_protocol.specs.Graph.{shape}
use Rattle.sg_certify.proofs.Fresh.{is_known}
use Rattle.sg_certify.proofs.recent.new_labels.Given as goal

abbrev pub invariant-loop-back : goal.invariant-loop-back
invariant-loop-back l = list_any (is_known (shape l.graph) (λ r. is_in r l.honest) l.role) (drop (length l.walk - l.back) l.walk) ≡ false
