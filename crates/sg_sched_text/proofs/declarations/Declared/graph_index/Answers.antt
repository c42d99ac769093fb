use Rattle.std.proofs.Common.{◌≡◌, ◌∙◌, ap, sym, position, bytes_eq, true}
use Rattle.sg_sched.specs.Format.Items.{graphs_declared, graph_names, SoFar}
use Rattle.sg_sched_text.proofs.Graphs.{behind}
use Rattle.sg_sched_text.proofs.declarations.Declared.graph_index.Goals as goal

pub returns-then-eq-clause-index : goal.returns-then-eq-clause-index
returns-then-eq-clause-index c =
    let n = c.args.name.now in
    let g = c.in_ok-graph.graph.now in
    let is : bytes_eq n g.name ≡ true = (λ i. bytes_eq (sym c.as_bytes.ensures.bytes i) (sym (c.as_bytes-2.ensures.bytes ∙ c.name.ensures.name) i)) ∙ sym c.if-eq.ensures in
    behind (bytes_eq n) c.self.inside.blocks _ g c.len.result c.in_ok-graph.ensures.graphs (sym c.in_default.ensures.index) is c.len.ensures
    ∙ ap (λ (past : SoFar). position (bytes_eq n) (graph_names (graphs_declared past))) c.self.view_is
