use Rattle.std.proofs.Common.{◌<◌, false, true, length, ap, ◌∙◌, arith, refl}
use Rattle.std.proofs.lemmas.List.{get_or-replicate, length-set}
use Rattle.sg_compose.proofs.Ends.{mark-more}
use Rattle.sg_compose.proofs.end.nodes_left.Goals as goal

pub loop-number-init : goal.loop-number-init
loop-number-init c = record { long = refl; left = λ n l. get_or-replicate 256 n false false l }

pub loop-number-preserved : goal.loop-number-preserved
loop-number-preserved c =
    let g = c.args.inner.now in
    let n = c.loop-number.number in
    let lt : n < length g.edges = omega (arith, c.loop-number-test.true, c.edges-number-end.ensures.count) in
    let more = mark-more g c.loop-number.left n c.source_of.result c.loop-number.invariant.long lt c.source_of.ensures.source c.source_of.ensures.few c.loop-number.invariant.left in
    record {
      long = ap length c.mark.ensures ∙ length-set c.loop-number.left c.source_of.result true ∙ c.loop-number.invariant.long;
      left = λ m l. rw c.mark.ensures (more m l);
    }
