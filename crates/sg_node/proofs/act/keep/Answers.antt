use Rattle.std.proofs.Common.{None, sym, ◌∙◌, ap}
use Rattle.indexmap.specs.IndexMap.{set_value_at}
use Rattle.sg_role.specs.declared.sent.Sent.{Sent}
use Rattle.sg_node.specs.Slots.{left_by}
use Rattle.sg_node.proofs.InSlots.{set_same}
use Rattle.sg_node.proofs.act.keep.Goals as goal

pub returns-in-Ended-clause-slots : goal.returns-in-Ended-clause-slots
returns-in-Ended-clause-slots c = sym (ap (λ (x : Sent). set_value_at c.args.sessions.now.slots c.args.index (left_by x)) c.in-Ended.is ∙ set_same c.args.sessions.now.slots c.args.index None c.requires.empty c.requires.within)
