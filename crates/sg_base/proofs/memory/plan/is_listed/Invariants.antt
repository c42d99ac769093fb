use Rattle.std.proofs.Common.{◌≡◌, ◌==◌, drop}
use Rattle.std.specs.List.{list_any}
use Rattle.sg_base.proofs.memory.plan.is_listed.Given as goal

abbrev pub invariant-loop-fail : goal.invariant-loop-fail
invariant-loop-fail l = list_any (λ n. n == l.number) l.fails ≡ list_any (λ n. n == l.number) (drop l.fail-index l.fails)
