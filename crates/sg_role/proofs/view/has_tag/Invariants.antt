use Rattle.std.proofs.Common.{◌≡◌, drop}
use Rattle.sg_model.specs.Lists.{is_in, keys_of}
use Rattle.sg_role.proofs.view.has_tag.Given as goal

abbrev pub invariant-loop-at : goal.invariant-loop-at
invariant-loop-at l = is_in l.role (keys_of l.tags) ≡ is_in l.role (keys_of (drop l.at l.tags))
