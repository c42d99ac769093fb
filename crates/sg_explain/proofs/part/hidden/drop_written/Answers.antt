use Rattle.std.proofs.Common.{false, if◌then◌else◌, get_or, arith}
use Rattle.std.proofs.lemmas.Grind.{common_steps}
use Rattle.sg_model.specs.Lists.{is_in, keys_of}
use Rattle.sg_explain.proofs.Indices.{small_head, put_on}
use Rattle.sg_explain.proofs.part.hidden.drop_written.Goals as goal

pub loop-write-preserved : goal.loop-write-preserved
loop-write-preserved c =
    let head = small_head c.as_slice-write-items.result.now c.loop-write.write-index c.write-item.result c.loop-write-test.true c.write-item.is c.loop-write.invariant.small in
    record {
      wide = grind (arith, common_steps, c.loop-write.invariant.wide);
      small = head.1;
      dropped = put_on false false c.loop-write.carried c.as_slice-write-items.result.now c.loop-write.write-index c.write-item.result
          (λ x. if is_in x (keys_of c.args.step.now.writes) then false else get_or c.args.carried.now x false)
          c.index_of.result c.index_of.ensures head.0 c.loop-write.invariant.wide c.loop-write-test.true c.write-item.is c.loop-write.invariant.dropped;
    }
