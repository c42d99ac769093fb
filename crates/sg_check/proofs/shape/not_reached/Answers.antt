use Rattle.std.proofs.Common.{◌≡◌, [], ◌∙◌, below_more, subst}
use Rattle.sg_protocol.specs.Accepted.{Reached}
use Rattle.sg_reach.specs.Reaches.{Closure, IsWithin}
use Rattle.sg_check.proofs.Shapes.{within_start}
use Rattle.sg_check.proofs.shape.not_reached.Goals as goal

pub loop-number-preserved : goal.loop-number-preserved
loop-number-preserved c =
    let start : Closure = record { graph = c.args.graph.now; from = 0; past = [] } in
    let same : c.new-reach.result ≡ start = c.new-reach.ensures ∙ (λ i. record { graph = c.args.graph.now; from = 0; past = c.empty.ensures i }) in
    below_more (Reached c.args.graph.now) c.loop-number.number c.loop-number.invariant
    (within_start c.args.graph.now c.loop-number.number (subst (λ (k : Closure). IsWithin k c.loop-number.number) same (c.has.ensures.0 c.if-not-has.false)))
