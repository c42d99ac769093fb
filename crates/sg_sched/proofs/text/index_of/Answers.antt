use Rattle.std.proofs.Common.{◌==◌, sym, arith, length}
use Rattle.std.proofs.lemmas.Grind.{common_steps}
use Rattle.std.proofs.lemmas.List.Sums.{position_or_len_is}
use Rattle.sg_sched.proofs.text.index_of.Goals as goal

pub returns-then-bytes-at-clause-first : goal.returns-then-bytes-at-clause-first
returns-then-bytes-at-clause-first c =
    sym (position_or_len_is (λ b. b == c.args.mark) c.args.bytes.now c.bytes.at 0 (omega arith) c.bytes.invariant (λ _. grind (arith, common_steps)))

pub returns-clause-first : goal.returns-clause-first
returns-clause-first c =
    sym (position_or_len_is (λ b. b == c.args.mark) c.args.bytes.now (length c.args.bytes.now) 0 (omega arith) (λ k h. c.bytes.invariant k (omega arith)) (λ h. absurd (omega arith)))
