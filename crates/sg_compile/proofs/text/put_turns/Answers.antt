use Rattle.std.proofs.Common.{◌≡◌, ◌==◌, ◌++◌, true, false, ◌∙◌, rules}
use Rattle.sg_model.specs.Shape.{role_at}
use Rattle.sg_protocol.specs.Graph.{shape}
use Rattle.sg_compile.specs.Text.{line, turn_line}
use Rattle.sg_compile.proofs.Lines.{written_more, written_same}
use Rattle.sg_compile.proofs.text.put_turns.Goals as goal
use Rattle.sg_compile.proofs.text.put_turns.Goals.{then-eq+in_ok-put_turn, else-eq}

pub loop-number-preserved : goal.loop-number-preserved
loop-number-preserved c =
    elim c.if-eq.branch [
      | then-eq+in_ok-put_turn w ↦
          (let here : (role_at (shape c.args.graph.now) c.loop-number.number == c.args.role) ≡ true = search rules in
          let more : c.if-eq.out ≡ c.loop-number.out ++ line (turn_line c.args.graph.now c.loop-number.number) = search rules in
          written_more line (turn_line c.args.graph.now) (λ n. role_at (shape c.args.graph.now) n == c.args.role) c.loop-number.number c.args.out.now c.loop-number.out c.if-eq.out
          here c.loop-number.invariant more)
      | else-eq w ↦
          (let away : (role_at (shape c.args.graph.now) c.loop-number.number == c.args.role) ≡ false = search rules in
          w.out-is ∙ written_same line (turn_line c.args.graph.now) (λ n. role_at (shape c.args.graph.now) n == c.args.role) c.loop-number.number c.args.out.now c.loop-number.out
          away c.loop-number.invariant)
    ]
