use Rattle.std.proofs.Common.{◌≡◌, ℕ, ◌==◌, ◌<◌, false, take, get_or, length}
use Rattle.std.specs.List.{list_any}
use Rattle.sg_compose.proofs.end.nodes_left.Given as goal

abbrev pub invariant-loop-number : goal.invariant-loop-number
invariant-loop-number l = record {
  long : length l.left ≡ 256;
  left : (n : ℕ) → n < 256 → get_or l.left n false ≡ list_any (λ e. e.source == n) (take l.number l.inner.edges);
}
