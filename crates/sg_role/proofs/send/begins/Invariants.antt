use Rattle.std.proofs.Common.{◌≡◌, Some, drop}
use Rattle.std.specs.List.{list_any}
use Rattle.sg_protocol.specs.Evidence.{same_origin}
use Rattle.sg_vis.specs.Table.{views_of}
use Rattle.sg_role.proofs.send.begins.Given as goal

abbrev pub invariant-loop-number : goal.invariant-loop-number
invariant-loop-number l = list_any (λ v. same_origin v.origin (Some l.label)) (drop l.number (views_of l.table)) ≡ list_any (λ v. same_origin v.origin (Some l.label)) (views_of l.table)
