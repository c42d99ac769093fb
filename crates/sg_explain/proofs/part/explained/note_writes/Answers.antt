use Rattle.std.proofs.Common.{if◌then◌else◌, get_or, arith}
use Rattle.std.proofs.lemmas.Grind.{common_steps}
use Rattle.std.specs.Prelude.{Some, None}
use Rattle.sg_model.specs.Lists.{is_in, keys_of}
use Rattle.sg_explain.proofs.Indices.{small_head, put_on}
use Rattle.sg_explain.proofs.part.explained.note_writes.Goals as goal

pub loop-write-preserved : goal.loop-write-preserved
loop-write-preserved c =
    let head = small_head c.as_slice-write-items.result.now c.loop-write.write-index c.write-item.result c.loop-write-test.true c.write-item.is c.loop-write.invariant.small in
    record {
      wide = grind (arith, common_steps, c.loop-write.invariant.wide);
      small = head.1;
      noted = put_on (Some c.args.number) None c.loop-write.indices c.as_slice-write-items.result.now c.loop-write.write-index c.write-item.result
          (λ x. if is_in x (keys_of c.args.step.now.writes) then Some c.args.number else get_or c.args.indices.now x None)
          c.index_of.result c.index_of.ensures head.0 c.loop-write.invariant.wide c.loop-write-test.true c.write-item.is c.loop-write.invariant.noted;
    }
