use Rattle.sg_keys.specs.Words.{ip}
use Rattle.sg_keys.proofs.SplitLaws.{too_many}
use Rattle.sg_keys.proofs.word.read_ip.Goals as goal

pub returns-in_default : goal.returns-in_default
unfolding ip
returns-in_default c =
    rw (c.in_ok-first.ensures, c.in_ok-second.ensures, c.in_ok-third.ensures, c.in_default.ensures)
    (too_many c.in_ok-first.first.now c.in_ok-second.second.now c.in_ok-third.third.now (c.in_default.field-0.0).now (c.in_default.field-0.1).now)
