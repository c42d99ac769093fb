use Rattle.std.proofs.Common.{◌∙◌, arith}
use Rattle.std.proofs.lemmas.List.Edits.{length-remove}
use Rattle.sg_stream.proofs.Removal.{without-piece}
use Rattle.sg_stream.proofs.memory.remove_pieces.Goals as goal

pub loop-at-preserved : goal.loop-at-preserved
loop-at-preserved c =
    let fewer = length-remove c.loop-at.pieces.items c.loop-at.at (omega arith) in
    record {
      within = rw c.remove_at.ensures.items (omega arith);
      rest =
          c.loop-at.invariant.rest
          ∙ without-piece c.args.conn c.loop-at.at c.loop-at.pieces.items c.remove_at.new.pieces.items c.index.result.now c.remove_at.result (omega arith) c.index.ensures c.if-index-conn.false (c.remove_at.ensures.empty _) c.if-remove_at.false c.remove_at.ensures.items;
    }
