use Rattle.std.proofs.Common.{◌<◌, ℕ}
use Rattle.sg_know.specs.States.{IsUnknownRead}
use Rattle.sg_know.proofs.bad.first_unknown.Given as goal

abbrev pub invariant-loop-number : goal.invariant-loop-number
invariant-loop-number l = (e i : ℕ) → e < l.number → IsUnknownRead l.graph l.role l.var l.states e i → ⊥
