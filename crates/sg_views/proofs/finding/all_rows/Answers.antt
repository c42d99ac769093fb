use Rattle.sg_vis.specs.Table.{views_of}
use Rattle.sg_views.proofs.Tables.{shown-next}
use Rattle.sg_views.proofs.finding.all_rows.Goals as goal

pub loop-at-preserved : goal.loop-at-preserved
loop-at-preserved c =
    let done = c.in_ok-add_rows.ensures in
    record {
      rows = done.rows;
      shown = shown-next c.args.graph.now c.args.role c.args.states.now (views_of c.loop-at.rows.items) (views_of c.add_rows.new.rows.items) c.loop-at.at done.keeps done.shown c.loop-at.invariant.shown;
    }
