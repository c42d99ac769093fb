use Rattle.std.proofs.Common.{◌≡◌, ◌==◌, ◌++◌, map, filter}
use Rattle.std.specs.Prelude.{flat_map}
use Rattle.sg_model.specs.Lists.{below}
use Rattle.sg_model.specs.Shape.{role_at}
use Rattle.sg_protocol.specs.Graph.{shape}
use Rattle.sg_compile.specs.Text.{line, turn_line}
use Rattle.sg_compile.proofs.text.put_turns.Given as goal

abbrev pub invariant-loop-number : goal.invariant-loop-number
invariant-loop-number l = l.out ≡ l.initial.out ++ flat_map line (map (turn_line l.graph) (filter (λ n. role_at (shape l.graph) n == l.role) (below l.number)))
