use Rattle.sg_crypt.proofs.NameOrder.{is_before}
use Rattle.sg_crypt.proofs.pair.before.Goals as goal

pub returns : goal.returns
returns c = is_before c.args.a.now c.args.b.now c.lt.result c.lt.ensures
