use Rattle.std.proofs.Common.{◌≡◌, ◌≤◌, List, length, insert, Contains, sym, ap, subst, ◌∙◌}
use Rattle.std.specs.Option.{IfSome}
use Rattle.std.specs.List.{slice_get}
use Rattle.sg_views.specs.Limits.{Explains, IsFull}
use Rattle.sg_vis.specs.Order.{HoldsTable, BelongsAt}
use Rattle.sg_vis.specs.Model.{origin_of}
use Rattle.sg_views.specs.Search.{AreRows, Keeps}
use Rattle.sg_views.specs.Steps.{next_view}
use Rattle.sg_vis.specs.Table.{ShownView, Shows, view_from, views_of}
use Rattle.sg_views.proofs.Growing.{both_ok, on_ok}
use Rattle.sg_views.proofs.Reached.{few_open}
use Rattle.sg_views.proofs.Tables.{keeps-insert, has-insert, rows-insert, explains_full, if_err}
use Rattle.sg_views.proofs.finding.add_row.Goals as goal

pub returns : goal.returns
returns c =
    let old = c.args.rows.now.items in
    let new = c.put_row.new.rows.items in
    let g = c.args.graph.now in
    let r = c.args.role in
    let found = c.requires.found in
    let index = c.in-Err-index_of.index in
    let row : ShownView = record { view = c.in-Ok.view; walk = c.in-Ok-walk_on.walk } in
    let within : index ≤ length old = subst (λ (rows : List ShownView). index ≤ length rows) c.as_slice.ensures.value c.in-Err-index_of.ensures.between.within in
    let view : view_from (origin_of c.view.inside.from) c.as_slice-2.result.now ≡ c.in-Ok.view = ap (view_from (origin_of c.view.inside.from)) c.as_slice-2.ensures ∙ c.view.view_is in
    let belongs : BelongsAt old c.in-Ok.view index =
    subst (λ v. BelongsAt old v index) view
    (subst (λ rows. BelongsAt rows (view_from (origin_of c.view.inside.from) c.as_slice-2.result.now) index) c.as_slice.ensures.value c.in-Err-index_of.ensures.between) in
    let next : Shows g r c.in-Ok-walk_on.walk (next_view g r c.get.result.now.view c.args.label) =
    subst (λ o. IfSome o (λ p. Shows g r c.in-Ok-walk_on.walk (next_view g r p.view c.args.label))) c.get.ensures (c.in-Ok-walk_on.ensures g r found.searched c.requires.label c.requires.receiver c.requires.source) in
    let shows : Shows g r c.in-Ok-walk_on.walk c.in-Ok.view = subst (Shows g r c.in-Ok-walk_on.walk) (sym c.in-Ok.ensures) next in
    record {
      rows = both_ok c.put_row.result (HoldsTable new) (new ≡ insert old index row) (AreRows g r new) c.put_row.ensures.table c.put_row.ensures.put
          (λ holds e. subst (AreRows g r) (sym e) (rows-insert g r old index row c.requires.rows within shows (subst HoldsTable e holds)));
      keeps = on_ok c.put_row.result (new ≡ insert old index row) (Keeps (views_of old) (views_of new)) c.put_row.ensures.put
          (λ e. subst (λ t. Keeps (views_of old) (views_of t)) (sym e) (keeps-insert old index row within));
      shown = on_ok c.put_row.result (new ≡ insert old index row) (IfSome (slice_get c.args.states.now c.args.at) (λ p. Contains (views_of new) (next_view g r p.view c.args.label))) c.put_row.ensures.put
          (λ e. subst (λ o. IfSome o (λ p. Contains (views_of new) (next_view g r p.view c.args.label))) (sym c.get.ensures)
          (subst (λ t. Contains (views_of t) (next_view g r c.get.result.now.view c.args.label)) (sym e)
          (subst (Contains (views_of (insert old index row))) c.in-Ok.ensures (has-insert old index row within))));
      refused = if_err c.put_row.result (IsFull old c.in-Ok.view) (Explains g r) c.put_row.ensures.full
          (λ fault full. explains_full g r old c.in-Ok.view index c.in-Ok-walk_on.walk fault
          (few_open g r c.args.states.now found.searched found.followed found.few) c.requires.rows shows belongs full);
    }
