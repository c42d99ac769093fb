use Rattle.std.proofs.Common.{◌≡◌, ℕ, ◌<◌, Contains, get_or}
use Rattle.sg_model.specs.Shape.{receiver}
use Rattle.sg_protocol.specs.Graph.{shape}
use Rattle.sg_views.specs.Search.{AreRows, Keeps}
use Rattle.sg_views.specs.Steps.{next_view}
use Rattle.sg_vis.specs.Table.{views_of}
use Rattle.sg_views.specs.declared.states.State.{State}
use Rattle.sg_views.proofs.finding.add_rows.Given as goal

abbrev pub invariant-loop-label : goal.invariant-loop-label
invariant-loop-label l = record {
  rows : AreRows l.graph l.role l.rows.items;
  keeps : Keeps (views_of l.fn.rows.items) (views_of l.rows.items);
  shown : (k : ℕ) (d : State) → k < l.label-index → receiver (shape l.graph) (get_or l.label-items k 0) ≡ l.role
      → Contains (views_of l.rows.items) (next_view l.graph l.role (get_or l.states l.at d).view (get_or l.label-items k 0));
}
