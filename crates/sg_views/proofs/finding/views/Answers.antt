use Rattle.std.proofs.Common.{◌≤◌, List, length, All, subst, sym}
use Rattle.sg_protocol.specs.Evidence.{IsViewTable}
use Rattle.sg_vis.specs.Table.{ShownView, Shows, views_of}
use Rattle.sg_views.proofs.Reached.{few_open, is_table}
use Rattle.sg_views.proofs.finding.views.Goals as goal

pub from_rows-requires : goal.from_rows-requires
from_rows-requires c = c.in_ok-rows.ensures.rows.holds

pub returns-clause-table : goal.returns-clause-table
returns-clause-table c =
    subst (λ (rows : List ShownView). IsViewTable c.args.graph.now c.args.role (views_of rows)) (sym c.from_rows.ensures)
    (is_table c.args.graph.now c.args.role c.in_ok-states.states c.in_ok-rows.rows.items c.in_ok-states.ensures.found.searched c.in_ok-states.ensures.found.followed
    c.in_ok-rows.ensures.rows c.in_ok-rows.ensures.shown)

pub returns-clause-walks : goal.returns-clause-walks
returns-clause-walks c =
    subst (λ (rows : List ShownView). All (λ s. Shows c.args.graph.now c.args.role s.walk s.view) rows) (sym c.from_rows.ensures) c.in_ok-rows.ensures.rows.shows

pub returns-clause-few : goal.returns-clause-few
returns-clause-few c = subst (λ (rows : List ShownView). length rows ≤ 4096) (sym c.from_rows.ensures) c.in_ok-rows.ensures.rows.holds.few

pub returns-clause-few_open : goal.returns-clause-few_open
returns-clause-few_open c = few_open c.args.graph.now c.args.role c.in_ok-states.states c.in_ok-states.ensures.found.searched c.in_ok-states.ensures.found.followed c.in_ok-states.ensures.found.few
