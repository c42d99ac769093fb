use Rattle.std.proofs.Common.{◌≡◌, ◌<◌, ℕ, take}
use Rattle.sg_model.specs.Lists.{is_in, keys_of}
use Rattle.sg_protocol.specs.Graph.{AreNumbers}
use Rattle.sg_role.proofs.view.vars_of.Given as goal

abbrev pub invariant-loop-at : goal.invariant-loop-at
invariant-loop-at l = AreNumbers 32 l.vars × ((x : ℕ) → x < 32 → is_in x l.vars ≡ is_in x (keys_of (take l.at l.delta)))
