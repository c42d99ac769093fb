use Rattle.sg_audit.proofs.Spelled.{spelled, wrong, reads, refuses}
use Rattle.sg_audit.proofs.read.read_logs.Goals as goal

pub returns-clause-spelled : goal.returns-clause-spelled
returns-clause-spelled c = spelled c.args.bytes.now c.read_text.result c.read_text.ensures.exact

pub returns-clause-read : goal.returns-clause-read
returns-clause-read c = reads c.args.bytes.now c.read_text.result c.read_text.ensures.exact

pub returns-clause-wrong : goal.returns-clause-wrong
returns-clause-wrong c = wrong c.args.bytes.now c.read_text.result c.read_text.ensures.exact

pub returns-clause-refused : goal.returns-clause-refused
returns-clause-refused c = refuses c.args.bytes.now c.read_text.result c.read_text.ensures.exact
