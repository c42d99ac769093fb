use Rattle.sg_keys.specs.Words.{address}
use Rattle.sg_keys.proofs.SplitLaws.{too_many_parts}
use Rattle.sg_keys.proofs.word.read_address.Goals as goal

pub returns-in_default : goal.returns-in_default
unfolding address
returns-in_default c =
    rw (c.in_ok-host.ensures, c.in_default.ensures) (too_many_parts c.in_ok-host.host.now (c.in_default.field-0.0).now (c.in_default.field-0.1).now)
