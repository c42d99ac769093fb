use Rattle.std.proofs.Common.{◌∙◌}
use Rattle.sg_node.proofs.InSlots.{live_of}
use Rattle.sg_node.proofs.sessions.take_at.Goals as goal

pub returns-clause-taken : goal.returns-clause-taken
returns-clause-taken c = c.take.ensures.value ∙ live_of c.args.slots.now.entries c.args.index c.index_mut.result.now c.index_mut.ensures.value
