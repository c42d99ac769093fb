use Rattle.std.proofs.Common.{◌≡◌, take}
use Rattle.sg_vis.specs.Table.{views_of}
use Rattle.sg_views.proofs.finding.with_view.Given as goal

abbrev pub invariant-loop-row : goal.invariant-loop-row
invariant-loop-row l = l.list.items ≡ views_of (take l.row-index l.rows)
