use Rattle.std.proofs.Common.{◌≡◌, ◌<◌, ℕ, map}
use Rattle.sg_model.specs.Lists.{is_in}
use Rattle.sg_role.proofs.view.opens_all.Given as goal

abbrev pub invariant-loop-number : goal.invariant-loop-number
invariant-loop-number l = (x : ℕ) → x < l.number → is_in x (map (λ o. o.variable) l.openings) ≡ is_in x l.reads
