use Rattle.std.proofs.Common.{◌≡◌, ◌-◌}
use Rattle.std.specs.List.{list_all}
use Rattle.sg_model.specs.Lists.{is_in, below, range_from}
use Rattle.sg_audit.proofs.reader.have_all.Given as goal

abbrev pub invariant-loop-number : goal.invariant-loop-number
invariant-loop-number l = list_all (λ r. is_in r l.roles) (below l.count) ≡ list_all (λ r. is_in r l.roles) (range_from l.number (l.count - l.number))
