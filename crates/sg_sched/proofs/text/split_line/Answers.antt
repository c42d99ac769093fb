use Rattle.std.proofs.lemmas.List.{take_min, drop_min}
use Rattle.sg_sched.proofs.TextLaws.{lines_first}
use Rattle.sg_sched.proofs.text.split_line.Goals as goal

pub returns-clause-split : goal.returns-clause-split
returns-clause-split c =
    rw (c.split_at.ensures.front, c.split_at.ensures.back, c.min.ensures, take_min, drop_min, c.index_of-at.ensures.first) (lines_first c.args.bytes.now c.requires)
