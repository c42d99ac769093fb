use Rattle.std.proofs.Common.{subst}
use Rattle.sg_model.specs.Bytes.{AreBytes}
use Rattle.sg_craft.proofs.item.facts_of_tag.Goals as goal

pub returns : goal.returns
returns c = subst (AreBytes 32) c.tag.view_is (c.tag.told, c.facts_of_bytes.ensures)
