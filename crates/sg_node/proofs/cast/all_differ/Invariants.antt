use Rattle.std.proofs.Common.{◌≡◌, drop}
use Rattle.sg_model.specs.Lists.{all_differ}
use Rattle.sg_node.proofs.cast.all_differ.Given as goal

-- all differ if those that are left do
abbrev pub invariant-loop-at : goal.invariant-loop-at
invariant-loop-at l = all_differ l.names ≡ all_differ (drop l.at l.names)
