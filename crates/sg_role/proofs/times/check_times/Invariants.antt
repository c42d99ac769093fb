use Rattle.std.proofs.Common.{◌≡◌, ◌+◌, ◌≤◌, drop}
use Rattle.sg_protocol.specs.Verdict.{bad_time}
use Rattle.sg_role.proofs.times.check_times.Given as goal

abbrev pub invariant-loop-at : goal.invariant-loop-at
invariant-loop-at l = (bad_time 1 l.initial.last l.items ≡ bad_time (l.at + 1) l.last (drop l.at l.items)) × (l.last ≤ 1000000)
