use Rattle.std.proofs.Common.{◌≡◌, ℕ, List, ◌==◌, ◌<◌, Vec, Global, false, Contains, ◌+◌, get_or, sym, ap, subst, ◌∙◌, true≢false}
use Rattle.std.proofs.lemmas.Bool.{eq-eqb}
use Rattle.sg_model.specs.Shape.{receiver}
use Rattle.sg_protocol.specs.Graph.{Graph, shape}
use Rattle.sg_views.specs.declared.states.State.{State}
use Rattle.sg_views.specs.Search.{AreRows, Keeps}
use Rattle.sg_views.specs.Steps.{next_view}
use Rattle.sg_vis.specs.Table.{ShownView, views_of}
use Rattle.sg_views.proofs.Tables.{shown-all, shown-more}
use Rattle.sg_views.proofs.finding.add_rows.Goals as goal
use Rattle.sg_views.proofs.finding.add_rows.Goals.{then-eq+in_ok-add_row, else-eq}

-- a table has what the labels below an index lead to, and keeps the first one
abbrev ShowUpTo : Graph → ℕ → List State → ℕ → ℕ → List ℕ → List ShownView → List ShownView → Type 0
ShowUpTo g r states at index labels first table = record {
  rows : AreRows g r table;
  keeps : Keeps (views_of first) (views_of table);
  shown : (k : ℕ) (d : State) → k < index → receiver (shape g) (get_or labels k 0) ≡ r → Contains (views_of table) (next_view g r (get_or states at d).view (get_or labels k 0));
}

pub loop-label-preserved : goal.loop-label-preserved
loop-label-preserved c =
    let g = c.args.graph.now in
    let r = c.args.role in
    let states = c.args.states.now in
    let labels = c.edges_from-label-items.result.now in
    let before = c.loop-label.rows.items in
    elim c.if-eq.branch [
      | then-eq+in_ok-add_row w ↦
          (let after = w.add_row.new.rows.items in
          let done = w.in_ok-add_row.ensures in
          let is = ap (λ (v : Vec ShownView Global). v.items) w.rows-is in
          subst (ShowUpTo g r states c.args.at (c.loop-label.label-index + 1) labels c.args.rows.now.items) (sym is)
          (record {
            rows = done.rows;
            keeps = λ v h. done.keeps v (c.loop-label.invariant.keeps v h);
            shown = shown-more g r states (views_of before) (views_of after) c.args.at c.loop-label.label-index labels c.label-item.result c.requires.there done.keeps c.loop-label-test.true c.label-item.is
                (λ t. done.shown) c.loop-label.invariant.shown;
          }))
      | else-eq w ↦
          (let is = ap (λ (v : Vec ShownView Global). v.items) w.rows-is in
          let other : (receiver (shape g) c.label-item.result == r) ≡ false = ap (λ n. n == r) (sym c.receiver.ensures.role) ∙ sym c.eq.ensures ∙ w.if-eq.false in
          subst (ShowUpTo g r states c.args.at (c.loop-label.label-index + 1) labels c.args.rows.now.items) (sym is)
          (record {
            rows = c.loop-label.invariant.rows;
            keeps = c.loop-label.invariant.keeps;
            shown = shown-more g r states (views_of before) (views_of before) c.args.at c.loop-label.label-index labels c.label-item.result c.requires.there (λ v h. h) c.loop-label-test.true c.label-item.is
                (λ t. absurd (true≢false (sym (eq-eqb (receiver (shape g) c.label-item.result) r t) ∙ other))) c.loop-label.invariant.shown;
          }))
    ]

pub returns-clause-shown : goal.returns-clause-shown
returns-clause-shown c =
    shown-all c.args.graph.now c.args.role c.args.states.now (views_of c.loop-label.rows.items) c.args.at c.loop-label.label-index c.get.result.now c.edges_from-label-items.result.now
    c.get.ensures c.edges_from-label-items.ensures.all c.loop-label-test.false c.loop-label.invariant.shown
