use Rattle.sg_protocol.proofs.Sent.{cut_tag}
use Rattle.sg_craft.proofs.item.cut_tag.Goals as goal

pub returns-clause-range : goal.returns-clause-range
returns-clause-range c = rw c.cut.ensures (cut_tag c.args.version c.requires c.args.tag c.facts_of_tag.ensures)
