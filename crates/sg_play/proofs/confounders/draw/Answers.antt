use Rattle.std.proofs.Common.{ℕ, ◌+◌, List, [], ◌∷◌, ◌++◌, Some, length, drop, length-append, ap, ◌∙◌}
use Rattle.sg_play.proofs.Looping.{left_next, random_next}
use Rattle.sg_play.proofs.confounders.draw.Goals as goal

pub loop-at-preserved : goal.loop-at-preserved
loop-at-preserved g c =
    let inv = c.loop-at.invariant in
    record {
      count = ap length c.in_ok-push.ensures.items ∙ length-append c.loop-at.confounders.items (c.next.result ∷ []) ∙ ap (λ (n : ℕ). n + 1) inv.count;
      reported = λ all drawn.
          let before = inv.reported all drawn in (
            c.in_ok-push.ensures.items ∙ (λ i. before.0 i ++ c.next.ensures.drawn (drop c.loop-at._at all) before.1 i ∷ []) ∙ random_next c.loop-at._at all,
            c.next.ensures.taken (drop c.loop-at._at all) before.1 ∙ ap (λ (l : List (List ℕ)). Some l) (left_next c.loop-at._at all),
          );
    }
