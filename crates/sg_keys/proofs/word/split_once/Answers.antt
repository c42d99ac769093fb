use Rattle.std.proofs.Common.{arith, eq-eqb}
use Rattle.std.proofs.lemmas.Grind.{common_steps}
use Rattle.sg_keys.proofs.SplitLaws.{split_found, split_none}
use Rattle.sg_keys.proofs.word.split_once.Goals as goal

pub returns-then-word-at : goal.returns-then-word-at
returns-then-word-at c =
    let found = split_found c.args.mark c.args.word.now c.bytes.at (omega arith) c.bytes.invariant (eq-eqb _ _ c.if-word-at.true) in
    grind (arith, common_steps, found)

pub returns : goal.returns
returns c = split_none c.args.mark c.args.word.now (λ k h. c.bytes.invariant k (omega arith))
