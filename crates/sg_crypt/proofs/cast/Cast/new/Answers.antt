use Rattle.std.proofs.Common.{arith, rules}
use Rattle.sg_crypt.proofs.Slots.{holds_cast}
use Rattle.sg_crypt.proofs.cast.Cast.new.Goals as goal

pub invariant_of-result : goal.invariant_of-result
invariant_of-result c =
    holds_cast c.args.version c.args.graph c.args.nonce c.args.names.now c.filled.result (search rules) (search rules, c.facts_of_bytes.ensures)
    (search rules, c.facts_of_bytes-2.ensures) (omega arith) (omega arith) c.facts_of_names.ensures c.filled.ensures
