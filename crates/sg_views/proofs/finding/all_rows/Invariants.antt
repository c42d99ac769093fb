use Rattle.sg_views.specs.Search.{AreRows, ShownBelow}
use Rattle.sg_vis.specs.Table.{views_of}
use Rattle.sg_views.proofs.finding.all_rows.Given as goal

abbrev pub invariant-loop-at : goal.invariant-loop-at
invariant-loop-at l = record {
  rows : AreRows l.graph l.role l.rows.items;
  shown : ShownBelow l.graph l.role (views_of l.rows.items) l.states l.at;
}
