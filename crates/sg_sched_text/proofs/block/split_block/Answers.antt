use Rattle.std.proofs.Common.{sym}
use Rattle.sg_sched_text.proofs.BlockLaws.{found}
use Rattle.sg_sched_text.proofs.block.split_block.Goals as goal

pub returns-then-is_closing-clause-closed : goal.returns-then-is_closing-clause-closed
returns-then-is_closing-clause-closed c =
    found c.args.bytes.now c.lines.rest.now c.split_line.result.0.now c.split_line.result.1.now c.lines.at c.lines.count c.lines.invariant.searched c.split_line.ensures.split (sym c.if-is_closing.ensures)
