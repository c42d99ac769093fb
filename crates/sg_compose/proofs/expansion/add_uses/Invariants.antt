use Rattle.std.proofs.Common.{◌≡◌, ◌≤◌, length, drop}
use Rattle.sg_compose.specs.Expansion.{all_used, expanded}
use Rattle.sg_compose.proofs.expansion.add_uses.Given as goal

abbrev pub invariant-loop-used : goal.invariant-loop-used
invariant-loop-used l = record {
  items : l.used-items ≡ l.part.uses;
  so_far : all_used l.part.graph.name l.graphs l.graph (drop l.used-index l.used-items) ≡ expanded l.graphs l.part;
  roles : length l.graph.roles ≡ length l.part.graph.roles;
  nodes : length l.part.graph.nodes ≤ length l.graph.nodes;
}
