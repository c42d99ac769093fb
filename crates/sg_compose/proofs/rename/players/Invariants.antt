use Rattle.std.proofs.Common.{◌≡◌, nat_lt, filter}
use Rattle.sg_compose.specs.Expansion.{players}
use Rattle.sg_compose.proofs.rename.players.Given as goal

abbrev pub invariant-loop-number : goal.invariant-loop-number
invariant-loop-number l = l.found ≡ players l.used (filter (λ x. nat_lt x l.number) l.roles)
