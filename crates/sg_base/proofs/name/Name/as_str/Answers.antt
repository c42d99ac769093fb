use Rattle.sg_base.proofs.NameText.{name_text}
use Rattle.sg_base.proofs.name.Name.as_str.Goals as goal

pub unreachable-requires : goal.unreachable-requires
unreachable-requires c = (c.in-Err.ensures.cases).0 (rw c.as_bytes.ensures.bytes (name_text c.args.self.now c.as_bytes.ensures.name))
