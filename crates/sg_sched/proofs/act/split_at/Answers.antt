use Rattle.sg_sched.proofs.SplitLaws.{split_none, split_some}
use Rattle.sg_sched.proofs.act.split_at.Goals as goal

pub returns-in-empty : goal.returns-in-empty
returns-in-empty c = split_none c.args.mark c.index_of-at.result c.args.word.now c.index_of-at.ensures.first (rw c.split_at.ensures.back at c.in-empty.len_below)

pub returns-in-len1-up : goal.returns-in-len1-up
returns-in-len1-up c = rw (c.split_at.ensures.front, c.split_at.ensures.back) (split_some c.args.mark c.index_of-at.result c.args.word.now c.index_of-at.ensures.first (rw c.split_at.ensures.back at c.in-len1-up.len_at_least))
