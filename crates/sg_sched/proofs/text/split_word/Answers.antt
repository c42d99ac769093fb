use Rattle.std.proofs.Common.{arith, sym, ◌∙◌}
use Rattle.std.proofs.lemmas.Grind.{common_steps}
use Rattle.sg_sched.proofs.TextLaws.{words_first}
use Rattle.sg_sched.proofs.text.split_word.Goals as goal

pub returns : goal.returns
returns c =
    sym c.without_spaces-text.ensures.same
    ∙ rw (c.split_at.ensures.front, c.split_at.ensures.back, c.index_of-at.ensures.first) (words_first c.without_spaces-text.result.now (c.without_spaces-text.ensures.begins (grind (arith, common_steps))) (rw c.index_of-at.ensures.first at c.index_of-at.ensures.within))
